-- Claims: Openings and Reads.
-- What proofs keep: Takings.
pub mod Openings
pub mod Reads
pub mod Takings
