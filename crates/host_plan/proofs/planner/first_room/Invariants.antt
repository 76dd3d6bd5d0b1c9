use Rattle.std.proofs.Common.{◌≡◌, ◌<◌, ℕ, false}
use Rattle.host_plan.proofs.Firsts.{fill_at}
use Rattle.host_plan.specs.Placing.{has_room}
use Rattle.host_plan.proofs.planner.first_room.Given as goal

abbrev pub invariant-loop-s : goal.invariant-loop-s
invariant-loop-s l = (k : ℕ) → k < l.s → has_room l.rate (fill_at l.fills k) ≡ false
