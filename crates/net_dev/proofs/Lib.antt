pub mod Arriving
pub mod Delivering
pub mod Joining
pub mod Sending
pub mod Storing
