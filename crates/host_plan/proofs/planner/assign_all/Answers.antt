use Rattle.std.proofs.Common.{arith, ◌∙◌, ap, map, length, sym, subst}
use Rattle.host_plan.specs.Bounds.{AreFills}
use Rattle.host_plan.specs.Placing.{assignment_of, fills_of}
use Rattle.host_plan.proofs.Settled.{assignments_bounded, fills_bounded, settling_starts, settling_step, settling_ends, whole}
use Rattle.host_plan.proofs.planner.assign_all.Goals as goal

pub fills_of-requires-clause-assignments : goal.fills_of-requires-clause-assignments
fills_of-requires-clause-assignments c = assignments_bounded c.args.e.now c.deref.result.now c.requires (c.deref.ensures.value ∙ c.in_ok-assignments.ensures ∙ ap (map assignment_of) c.as_slice.ensures)

pub loop-init : goal.loop-init
loop-init c =
    settling_starts c.args.e.now c.in_ok-assignments.assignments.items c.in_ok-fills.fills.items c.requires (c.in_ok-assignments.ensures ∙ ap (map assignment_of) c.as_slice.ensures)
    (c.in_ok-fills.ensures ∙ ap (fills_of c.args.e.now) c.deref.ensures.value)

pub settle_next-requires-clause-fills : goal.settle_next-requires-clause-fills
settle_next-requires-clause-fills c =
    subst AreFills (sym c.deref_mut-in-loop.ensures.value) (fills_bounded c.args.e.now c.loop.assignments.items c.loop.fills.items c.requires c.loop.invariant.bounded c.loop.invariant.full)

pub loop-preserved : goal.loop-preserved
loop-preserved c =
    settling_step c.args.e.now c.loop.assignments.items c.deref_mut.result.now c.settle_next.new.assignments _ c.loop.fills.items c.deref_mut-in-loop.result.now c.settle_next.new.fills _ c.loop.counter c.loop.invariant
    (omega arith) c.deref_mut.ensures.value c.deref_mut-in-loop.ensures.value c.settle_next.ensures.assignments c.settle_next.ensures.fills c.settle_next.ensures.kept c.settle_next.ensures.len c.settle_next.ensures.left c.settle_next.ensures.homes
    (whole c.loop.assignments.len c.settle_next.new.assignments c.loop.assignments.items c.loop.assignments.ok.0 (c.settle_next.auto.assignments ∙ ap length c.deref_mut.ensures.value))
    (whole c.loop.fills.len c.settle_next.new.fills c.loop.fills.items c.loop.fills.ok.0 (c.settle_next.auto.fills ∙ ap length c.deref_mut-in-loop.ensures.value))

pub returns-clause-assigned : goal.returns-clause-assigned
returns-clause-assigned c = settling_ends c.args.e.now c.loop.assignments.items c.loop.fills.items c.loop.counter c.loop.invariant (omega arith)
