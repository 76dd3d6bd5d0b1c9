use Rattle.host_plan.proofs.Firsts.{IsBestBefore}
use Rattle.host_plan.proofs.planner.next_free.Given as goal

abbrev pub invariant-loop-i : goal.invariant-loop-i
invariant-loop-i l = IsBestBefore l.assignments l.i l.best
