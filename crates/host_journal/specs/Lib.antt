-- Claims: Entries, Texts and Printed, which the headline rests on; Named for the law that the text fixes the journal; Guests, Traces, Tallies and
-- Summaries for the other views; Keepers, GuestKeepers, Holding, Standing and Causes for what a keeper and its sink hold after each call. Kept for
-- proofs: Parts.
pub mod Causes
pub mod Entries
pub mod GuestKeepers
pub mod Guests
pub mod Holding
pub mod Keepers
pub mod Named
pub mod Parts
pub mod Printed
pub mod Standing
pub mod Summaries
pub mod Tallies
pub mod Texts
pub mod Traces
