use Rattle.std.proofs.Common.{◌≡◌, ◌≢◌, ℕ, ◌+◌, ◌-◌, ◌≤◌, List, Option, Ok, slice_index}
use Rattle.lookahead_core.specs.Synchronous.{Setup}
use Rattle.lookahead_core.specs.CoreWords.{ticks_done}
use Rattle.host_journal.specs.Entries.{Entry}
use Rattle.slot_sched.specs.Legal.{At, Came}
use Rattle.slot_sched.specs.Parts.{WorksBy, Leaves}
use Rattle.slot_sched.specs.Schedule.{HostSetup, rules}
use Rattle.slot_sched.specs.Turns.{Between, HasDone, Serving}
use Rattle.slot_sched.proofs.scheduler.Scheduler.turn.Given as goal

abbrev pub invariant-loop-spent : goal.invariant-loop-spent
invariant-loop-spent g l = record {
  left : Leaves {T = Unit {0}} l.fn.self l.self (g.K.Keep.members l.fn.keep) (g.K.Keep.members l.keep) (g.K.Keep.head l.fn.keep) (g.K.Keep.head l.keep) (g.O.Sink.faults l.fn.out) (g.O.Sink.faults l.out) (Ok tt);
  within : l.spent ≤ l.capacity;
  early : (i : ℕ) → ticks_done l.self.core i ≤ ticks_done l.fn.self.core i + l.spent;
  others : (i : ℕ) → slice_index l.fn.self.homes.items i ≢ l.slot → ticks_done l.self.core i ≡ ticks_done l.fn.self.core i;
  came : (x : Setup g.N.Node.State) (p : HostSetup) (k host : ℕ) (at : At) (was : Option (List ℕ)) (es : List Entry) →
      Between x l.fn.self.core p host l.slot at → 1 ≤ host → WorksBy l.fn.self p k → HasDone l.fn.self.core k → g.K.Keep.keeps l.fn.keep was (g.O.Sink.taken l.fn.out) es →
      Came (rules g.N.Node.motion x p) (g.K.Keep.keeps l.keep was (g.O.Sink.taken l.out)) at es
      (λ there. Serving x l.fn.self.core l.self.core p host l.slot k l.spent there);
}

abbrev pub decreases-loop-spent : goal.decreases-loop-spent
decreases-loop-spent g l = l.capacity - l.spent
