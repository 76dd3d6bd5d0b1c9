pub mod Below
pub mod Fitting
pub mod Rings
pub mod Rows
pub mod Sizes
