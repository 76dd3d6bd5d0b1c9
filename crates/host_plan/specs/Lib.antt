-- Claims: Fits, which the headline rests on, and Placing.
-- What proofs keep: Bounds.
pub mod Fits
pub mod Placing
pub mod Bounds
