use Rattle.std.proofs.Common.{◌≡◌, ◌≤◌, ◌+◌, ◌*◌, drop}
use Rattle.host_plan.specs.Placing.{need_so_far}
use Rattle.host_plan.proofs.assignments.need_so_far.Given as goal

abbrev pub invariant-loop-assignment : goal.invariant-loop-assignment
invariant-loop-assignment l = record {
  rest : l.need + need_so_far (drop l.assignment-index l.assignments) l.slot ≡ need_so_far l.assignments l.slot;
  bound : l.need ≤ l.assignment-index * 100000;
}
