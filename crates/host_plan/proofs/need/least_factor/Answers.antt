use Rattle.std.proofs.Common.{◌+◌}
use Rattle.host_plan.proofs.Factors.{IsLeastBefore, least_none, raised_step, kept_step}
use Rattle.host_plan.proofs.need.least_factor.Goals as goal
use Rattle.host_plan.proofs.need.least_factor.Goals.{then-least-factor, else-least-factor}

pub loop-slot-init : goal.loop-slot-init
loop-slot-init c = least_none c.args.e.now c.args.p.now.slots.items

pub loop-slot-preserved : goal.loop-slot-preserved
loop-slot-preserved c = elim c.if-least-factor.branch as (λ _. IsLeastBefore c.args.e.now c.args.p.now.slots.items (c.loop-slot.slot + 1) c.if-least-factor.least) [
  | then-least-factor w ↦ raised_step c.args.e.now c.args.p.now.slots.items c.loop-slot.slot c.div_ceil-factor.result c.slot_need.result c.capacity.result c.loop-slot.least c.if-least-factor.least
      c.loop-slot.invariant c.div_ceil-factor.ensures c.slot_need.ensures.need c.capacity.ensures.capacity c.capacity.ensures.low w.if-least-factor.true w.least-is
  | else-least-factor w ↦ kept_step c.args.e.now c.args.p.now.slots.items c.loop-slot.slot c.div_ceil-factor.result c.slot_need.result c.capacity.result c.loop-slot.least c.if-least-factor.least
      c.loop-slot.invariant c.div_ceil-factor.ensures c.slot_need.ensures.need c.capacity.ensures.capacity c.capacity.ensures.low w.if-least-factor.false w.least-is
]
