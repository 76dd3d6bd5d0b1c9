use Rattle.plan_text.proofs.LineSteps.{slot_more}
use Rattle.plan_text.proofs.plan.add_slots.Goals as goal

pub loop-slot-preserved : goal.loop-slot-preserved
loop-slot-preserved c =
    slot_more c.args.e.now c.args.p.now.slots.items c.args.lines.now.items c.loop-slot.lines.items c.push.new.self.items c.loop-slot.slot c.in_ok-line.line
    c.loop-slot.invariant c.in_ok-line.ensures c.in_ok-push.ensures.ok
