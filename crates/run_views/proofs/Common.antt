-- The names that most proofs cite, passed on from one place. Declares nothing.
pub use Rattle.std.proofs.Common.{◌≡◌, ◌∙◌, ℕ, zero, suc, ◌<◌, ◌≤◌, ◌/◌, List, [], ◌++◌, length, refl, sym, ap, ap₂, subst, arith, map, codes, ◌∷◌, Option, Result, Ok, Err, OnOk, take, ◌⊎◌, inl, inr}
pub use Rattle.tb_io.specs.Puts.{TakesPart, Takes}
pub use Rattle.trace_rec.specs.declared.rec.Rec.{Rec}
pub use Rattle.trace_rec.specs.declared.view.View.{View}
pub use Rattle.trace_rec.specs.declared.view.View.TheVariants.{Journal, Events, Traces, Summary}
pub use Rattle.exp_file.specs.declared.experiment.Experiment.{Experiment}
pub use Rattle.host_journal.specs.Entries.{Entry, End}
pub use Rattle.host_journal.specs.Guests.{ticks_shown, recs_below, guest_text, guests_of, texts_below, end_word, name_at}
unfoldable pub use Rattle.host_journal.specs.Guests.{guests_text, guests_head}
pub use Rattle.host_journal.specs.declared.head.Head.{Head}
pub use Rattle.slot_sched.specs.Legal.{Rules, IsComplete, IsLegal}
pub use Rattle.bench_build.specs.Inputs.{Inputs}
pub use Rattle.bench_build.specs.Setups.{run_rules, setup, host_setup}
pub use Rattle.run_views.specs.Runs.{IsHead, Shows, PutsCut, RunPuts}
pub use Rattle.run_views.specs.Texts.{ShowsGuests, text, traces_shown}
