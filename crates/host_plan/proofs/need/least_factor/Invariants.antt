use Rattle.host_plan.proofs.Factors.{IsLeastBefore}
use Rattle.host_plan.proofs.need.least_factor.Given as goal

abbrev pub invariant-loop-slot : goal.invariant-loop-slot
invariant-loop-slot l = IsLeastBefore l.e l.p.slots.items l.slot l.least
