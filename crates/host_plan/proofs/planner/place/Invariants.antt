use Rattle.std.proofs.Common.{◌≡◌, map, take}
use Rattle.host_plan.specs.Placing.{home_of}
use Rattle.host_plan.proofs.planner.place.Given as goal

abbrev pub invariant-loop-assignment : goal.invariant-loop-assignment
invariant-loop-assignment l = l.slots.items ≡ map home_of (take l.assignment-index l.assignment-items)
