-- Claims: Texts, Traced and Runs.
pub mod Runs
pub mod Texts
pub mod Traced
