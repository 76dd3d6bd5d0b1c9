use Rattle.std.proofs.Common.{◌≡◌, ℕ, List, length}
use Rattle.slot_sched.specs.Queues.{AreQueued}
use Rattle.slot_sched.proofs.queues.empty_queues.Given as goal

abbrev pub invariant-loop : goal.invariant-loop
invariant-loop l = record {
  length : length l.queues.items ≡ l.counter;
  empty : (done : ℕ → ℕ) (homes : List ℕ) → AreQueued done homes 0 l.queues.items;
}
