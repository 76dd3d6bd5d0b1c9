-- Claims: Faultless.
pub mod Faultless
