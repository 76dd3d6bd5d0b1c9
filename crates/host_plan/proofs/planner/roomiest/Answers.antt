use Rattle.std.proofs.Common.{arith, subst}
use Rattle.std.proofs.Common.{◌≡◌, length}
use Rattle.host_plan.proofs.Firsts.{IsRoomiestBefore, roomiest_is}
use Rattle.host_plan.proofs.planner.roomiest.Goals as goal

pub returns-clause-first : goal.returns-clause-first
returns-clause-first c =
    let all : c.loop-s.s ≡ length c.args.fills.now = omega arith in
    roomiest_is c.args.fills.now c.loop-s.best (subst (λ z. IsRoomiestBefore c.args.fills.now z c.loop-s.best) all c.loop-s.invariant)
