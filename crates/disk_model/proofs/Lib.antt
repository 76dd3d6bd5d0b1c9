pub mod Order
pub mod Pushed
