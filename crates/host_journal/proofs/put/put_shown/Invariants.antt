use Rattle.std.proofs.Common.{◌≡◌, true, false, take}
use Rattle.std.specs.List.{filter}
use Rattle.trace_rec.specs.Shown.{is_shown}
use Rattle.host_journal.specs.Standing.{Adds}
use Rattle.host_journal.specs.Texts.{rec_lines}
use Rattle.host_journal.proofs.put.put_shown.Given as goal

abbrev pub invariant-loop-rec : goal.invariant-loop-rec
invariant-loop-rec g l = record {
  adds : Adds l.initial.failed (g.O.Sink.taken l.initial.out) l.failed (g.O.Sink.taken l.out) (rec_lines l.guest (filter (is_shown l.view) (take l.rec-index l.recs)));
  going : l.initial.failed ≡ false → l.failed ≡ false;
  stopped : l.initial.failed ≡ true → g.O.Sink.taken l.out ≡ g.O.Sink.taken l.initial.out;
  unfailed : g.O.Sink.faults l.out ≡ g.O.Sink.faults l.initial.out;
  stays : l.initial.failed ≡ true → l.failed ≡ true;
}
