use Rattle.host_plan.proofs.Settled.{IsSettling}
use Rattle.host_plan.proofs.planner.assign_all.Given as goal

abbrev pub invariant-loop : goal.invariant-loop
invariant-loop l = IsSettling l.e l.assignments.items l.fills.items l.counter
