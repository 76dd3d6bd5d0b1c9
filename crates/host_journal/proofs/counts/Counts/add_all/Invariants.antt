use Rattle.std.proofs.Common.{◌≡◌, ◌++◌, List, take}
use Rattle.std.specs.List.{filter}
use Rattle.trace_rec.specs.declared.rec.Rec.{Rec}
use Rattle.host_journal.specs.Tallies.{counts_of}
use Rattle.host_journal.specs.Guests.{is_below}
use Rattle.host_journal.proofs.counts.Counts.add_all.Given as goal

abbrev pub invariant-loop-rec : goal.invariant-loop-rec
invariant-loop-rec l = (kept : List Rec) → l.initial.self ≡ counts_of kept → l.self ≡ counts_of (kept ++ filter (is_below l.ticks) (take l.rec-index l.recs))
