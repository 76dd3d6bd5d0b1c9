pub mod LineSteps
pub mod Pieces
pub mod Room
