-- What proofs keep: Ready.
pub mod Ready
