use Rattle.host_plan.proofs.Firsts.{first_found, none_found}
use Rattle.host_plan.proofs.planner.first_room.Goals as goal

pub returns-then-fills-s-clause-some : goal.returns-then-fills-s-clause-some
returns-then-fills-s-clause-some c = (c.loop-s-test.true, first_found c.args.rate c.args.fills.now c.loop-s.s c.loop-s-test.true c.loop-s.invariant c.if-fills-s.true)

pub returns-clause-none : goal.returns-clause-none
returns-clause-none c = none_found c.args.rate c.args.fills.now c.loop-s.s c.loop-s-test.false c.loop-s.invariant
