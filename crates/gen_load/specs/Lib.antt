-- Claims: Loads has the generated load, of the definitions in Images.
pub mod Images
pub mod Loads
