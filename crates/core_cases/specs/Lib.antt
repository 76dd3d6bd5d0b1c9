pub mod Dozing
pub mod Steadiness
