-- Claims: Images, Inputs and Setups, which the headline rests on; Building and Stocks for what a builder has taken and what it lacks.
-- What proofs keep: Answers, Openings and Takings.
pub mod Answers
pub mod Building
pub mod Images
pub mod Inputs
pub mod Openings
pub mod Setups
pub mod Stocks
pub mod Takings
