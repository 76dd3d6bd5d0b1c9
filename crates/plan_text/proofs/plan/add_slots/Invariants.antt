use Rattle.std.proofs.Common.{◌≡◌, ◌++◌, map}
use Rattle.std.specs.List.{range_with_len}
use Rattle.plan_text.specs.Texts.{slot_line}
use Rattle.plan_text.proofs.plan.add_slots.Given as goal

abbrev pub invariant-loop-slot : goal.invariant-loop-slot
invariant-loop-slot l = l.lines.items ≡ l.initial.lines.items ++ map (slot_line l.e l.p.slots.items) (range_with_len 0 l.slot)
