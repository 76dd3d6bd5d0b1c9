use Rattle.std.proofs.Common.{◌≡◌, length}
use Rattle.lookahead_core.specs.CoreWords.{ticks_done}
use Rattle.slot_sched.specs.Queues.{AreQueued}
use Rattle.slot_sched.proofs.queues.queues_of.Given as goal

abbrev pub invariant-loop-who : goal.invariant-loop-who
invariant-loop-who g l = record {
  length : length l.queues.items ≡ l.slots;
  queued : AreQueued (ticks_done l.core) l.homes l.who l.queues.items;
}
