use Rattle.host_plan.proofs.Settled.{pushed_fill}
use Rattle.host_plan.proofs.assignments.fills_of.Goals as goal

pub loop-slot-preserved : goal.loop-slot-preserved
loop-slot-preserved c =
    pushed_fill c.args.e.now c.args.assignments.now c.loop-slot.fills.items c.push.new.self.items c.loop-slot.slot (record { need = c.need_so_far.result; have = c.slot_have.result })
    c.loop-slot.invariant c.need_so_far.ensures.need c.slot_have.ensures.have c.in-Ok.ensures.items
