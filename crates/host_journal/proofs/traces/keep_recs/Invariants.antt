use Rattle.std.proofs.Common.{◌≡◌, ◌++◌, take}
use Rattle.std.specs.List.{filter}
use Rattle.host_journal.specs.Guests.{is_below}
use Rattle.host_journal.proofs.traces.keep_recs.Given as goal

abbrev pub invariant-loop-rec : goal.invariant-loop-rec
invariant-loop-rec l = l.log.items ≡ l.initial.log.items ++ filter (is_below l.ticks) (take l.rec-index l.recs)
