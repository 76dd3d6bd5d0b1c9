-- Claims: Headline, Ends, Lines and Plans, by the clauses of the call `diecast`. They rest on World, Origins and Benches, and on Openings and Reads of open_images,
-- Runs and Texts of run_views.
-- What proofs keep: Statuses.
pub mod Benches
pub mod Ends
pub mod Headline
pub mod Lines
pub mod Origins
pub mod Plans
pub mod Statuses
pub mod World
