use Rattle.std.proofs.Common.{◌≡◌, ◌≤◌, ◌+◌, ◌*◌, drop}
use Rattle.std.specs.List.{sum}
use Rattle.host_plan.specs.Fits.{rates_on}
use Rattle.host_plan.proofs.need.slot_need.Given as goal

abbrev pub invariant-loop-i : goal.invariant-loop-i
invariant-loop-i l = record {
  rest : l.need + sum (rates_on (drop l.i l.guests) (drop l.i l.homes) l.slot) ≡ sum (rates_on l.guests l.homes l.slot);
  bound : l.need ≤ l.i * 100000;
}
