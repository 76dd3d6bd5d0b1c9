-- Claims: all of these.
pub mod Puts
pub mod Texts
