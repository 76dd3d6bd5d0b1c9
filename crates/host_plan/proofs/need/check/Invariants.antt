use Rattle.std.proofs.Common.{◌≡◌, ◌≤◌, ◌<◌, ◌-◌, ℕ, length}
use Rattle.std.specs.List.{find, range_with_len}
use Rattle.host_plan.specs.Fits.{is_over, need, have}
use Rattle.host_plan.proofs.need.check.Given as goal

abbrev pub invariant-loop-slot : goal.invariant-loop-slot
invariant-loop-slot l = record {
  rest : find (is_over l.e l.p.slots.items) (range_with_len l.slot (length l.e.slots.items - l.slot)) ≡ find (is_over l.e l.p.slots.items) (range_with_len 0 (length l.e.slots.items));
  fits : (s : ℕ) → s < l.slot → need l.e l.p.slots.items s ≤ have l.e s;
}
