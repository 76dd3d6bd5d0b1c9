use Rattle.std.proofs.Common.{◌≡◌, ℕ, List, false}
use Rattle.trace_rec.specs.declared.rec.Rec.{Rec}
use Rattle.host_journal.specs.Guests.{texts_below, guest_text}
use Rattle.host_journal.specs.Holding.{Holds}
use Rattle.host_journal.specs.Standing.{Adds}
use Rattle.host_journal.proofs.guest_texts.put_guests.Given as goal

abbrev pub invariant-loop-i : goal.invariant-loop-i
invariant-loop-i g l = record {
  adds : (recs : ℕ → List Rec) → Holds g.H.Held.has l.held recs →
      Adds l.initial.failed (g.O.Sink.taken l.initial.out) l.failed (g.O.Sink.taken l.out) (texts_below (guest_text g.H.Held.shown l.names recs) l.i);
  going : l.initial.failed ≡ false → l.failed ≡ false;
  unfailed : g.O.Sink.faults l.out ≡ g.O.Sink.faults l.initial.out;
}
