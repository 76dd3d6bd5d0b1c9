use Rattle.std.proofs.Common.{length}
use Rattle.slot_sched.proofs.Places.{AreLeft}
use Rattle.slot_sched.proofs.scheduler.Scheduler.least_ready.Given as goal

abbrev pub invariant-loop-who : goal.invariant-loop-who
invariant-loop-who g l = AreLeft l.self.core l.self.homes.items l.slot (length l.self.homes.items) l.who-iterator
