pub mod Encoded
pub mod Read
