pub mod Factors
pub mod Firsts
pub mod Room
pub mod Settled
pub mod Sums
