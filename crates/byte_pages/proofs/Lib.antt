mod Blocks
mod LateTables
mod Places
mod Reserving
pub mod Writes
