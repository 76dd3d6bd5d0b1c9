use Rattle.std.proofs.Common.{◌≡◌, map}
use Rattle.std.specs.List.{range_with_len}
use Rattle.host_plan.specs.Placing.{fill_of}
use Rattle.host_plan.proofs.assignments.fills_of.Given as goal

abbrev pub invariant-loop-slot : goal.invariant-loop-slot
invariant-loop-slot l = l.fills.items ≡ map (fill_of l.e l.assignments) (range_with_len 0 l.slot)
