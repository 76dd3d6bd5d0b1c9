use Rattle.host_plan.proofs.Firsts.{IsRoomiestBefore}
use Rattle.host_plan.proofs.planner.roomiest.Given as goal

abbrev pub invariant-loop-s : goal.invariant-loop-s
invariant-loop-s l = IsRoomiestBefore l.fills l.s l.best
