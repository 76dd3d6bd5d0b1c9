use Rattle.host_plan.proofs.Firsts.{assignment_at, one_left}
use Rattle.host_plan.proofs.Settled.{next_free, is_left, filled_all}
use Rattle.host_plan.proofs.planner.settle_next.Goals as goal

pub returns-clause-fills : goal.returns-clause-fills
returns-clause-fills c e same =
    filled_all e c.args.assignments.now c.args.fills.now c.in-Some.i c.choose-s.result c.from-rate.result same c.in-Some.ensures.some.0
    (next_free c.args.assignments.now c.in-Some.i c.in-Some.ensures.some.0 c.in-Some.ensures.some.1) c.from-rate.ensures c.choose-s.ensures.slot

pub returns-clause-left : goal.returns-clause-left
returns-clause-left c =
    one_left c.args.assignments.now c.in-Some.i c.choose-s.result c.in-Some.ensures.some.0
    (is_left (assignment_at c.args.assignments.now c.in-Some.i) (next_free c.args.assignments.now c.in-Some.i c.in-Some.ensures.some.0 c.in-Some.ensures.some.1))
