use Rattle.std.proofs.Common.{◌≡◌, ◌++◌}
use Rattle.std.specs.List.{zip}
use Rattle.plan_text.specs.Texts.{guest_lines}
use Rattle.plan_text.proofs.LineSteps.{from}
use Rattle.plan_text.proofs.plan.add_guests.Given as goal

abbrev pub invariant-loop-i : goal.invariant-loop-i
invariant-loop-i l = l.lines.items ++ from l.i l.guests l.homes ≡ l.initial.lines.items ++ guest_lines 0 (zip l.guests l.homes)
