pub mod Bits
pub mod Dealt
pub mod Leaving
pub mod Listed
pub mod Sent
pub mod Skipped
pub mod Walking
