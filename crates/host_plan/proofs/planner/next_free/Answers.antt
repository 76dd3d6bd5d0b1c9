use Rattle.std.proofs.Common.{arith}
use Rattle.host_plan.proofs.Firsts.{best_some, best_none, best_left}
use Rattle.host_plan.proofs.planner.next_free.Goals as goal

pub returns-clause-some : goal.returns-clause-some
returns-clause-some c = best_some c.args.assignments.now c.loop-i.i c.loop-i.best (omega arith) c.loop-i.invariant

pub returns-clause-none : goal.returns-clause-none
returns-clause-none c = best_none c.args.assignments.now c.loop-i.i c.loop-i.best (omega arith) c.loop-i.invariant

pub returns-clause-left : goal.returns-clause-left
returns-clause-left c = best_left c.args.assignments.now c.loop-i.i c.loop-i.best (omega arith) c.loop-i.invariant
