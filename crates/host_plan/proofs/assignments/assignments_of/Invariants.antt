use Rattle.std.proofs.Common.{◌≡◌, map, take}
use Rattle.host_plan.specs.Placing.{assignment_of}
use Rattle.host_plan.proofs.assignments.assignments_of.Given as goal

abbrev pub invariant-loop-guest : goal.invariant-loop-guest
invariant-loop-guest l = l.assignments.items ≡ map assignment_of (take l.guest-index l.guests)
