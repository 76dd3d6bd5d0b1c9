use Rattle.std.proofs.Common.{arith, ◌∙◌, ◌≤◌, ap, map, length}
use Rattle.std.proofs.lemmas.List.{take_all}
use Rattle.host_plan.specs.Placing.{home_of}
use Rattle.host_plan.proofs.Settled.{is_placement, none_left}
use Rattle.host_plan.proofs.planner.place.Goals as goal

pub returns-clause-placement : goal.returns-clause-placement
returns-clause-placement c =
    let all : length c.deref-assignment-items.result.now ≤ c.loop-assignment.assignment-index = omega arith in
    is_placement c.args.e.now c.in_ok-assignments.assignments.items c.loop-assignment.slots.items c.requires c.in_ok-assignments.ensures.len c.in_ok-assignments.ensures.homes
    (c.loop-assignment.invariant ∙ ap (map home_of) (take_all c.loop-assignment.assignment-index c.deref-assignment-items.result.now all ∙ c.deref-assignment-items.ensures.value))

pub returns-clause-all : goal.returns-clause-all
returns-clause-all c = none_left c.args.e.now c.in_ok-assignments.assignments.items c.in_ok-assignments.ensures.assigned c.in_ok-assignments.ensures.left
