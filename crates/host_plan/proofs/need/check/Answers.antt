use Rattle.std.proofs.Common.{arith, ◌≤◌}
use Rattle.host_plan.specs.Fits.{need, have}
use Rattle.host_plan.proofs.Factors.{over_found, over_next, none_over, fits_more}
use Rattle.host_plan.proofs.need.check.Goals as goal

pub returns-then-have-need-clause-first : goal.returns-then-have-need-clause-first
returns-then-have-need-clause-first c =
    over_found c.args.e.now c.args.p.now.slots.items (record { slot = c.loop-slot.slot; need = c.slot_need-need.result; have = c.slot_have-have.result })
    (omega arith) c.loop-slot.invariant.rest c.slot_need-need.ensures.need c.slot_have-have.ensures.have c.if-have-need.true

pub loop-slot-preserved : goal.loop-slot-preserved
loop-slot-preserved c =
    let fits : need c.args.e.now c.args.p.now.slots.items c.loop-slot.slot ≤ have c.args.e.now c.loop-slot.slot = omega (arith, c.slot_need-need.ensures.need, c.slot_have-have.ensures.have, c.if-have-need.false) in
    record {
      rest = over_next c.args.e.now c.args.p.now.slots.items c.loop-slot.slot (omega arith) c.loop-slot.invariant.rest fits;
      fits = fits_more c.args.e.now c.args.p.now.slots.items c.loop-slot.slot c.loop-slot.invariant.fits fits;
    }

pub returns-clause-first : goal.returns-clause-first
returns-clause-first c = none_over c.args.e.now c.args.p.now.slots.items c.loop-slot.slot (omega arith) c.loop-slot.invariant.rest
