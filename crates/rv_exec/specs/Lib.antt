-- Claims: Step and Meaning, over HartState and BusOf, and Moves for what a step leaves of the bus.
-- What proofs keep: Ends and Choices, the answers of the functions that perform an instruction and the values that they choose among.
pub mod BusOf
pub mod Choices
pub mod Ends
pub mod HartState
pub mod Meaning
pub mod Moves
pub mod Step
