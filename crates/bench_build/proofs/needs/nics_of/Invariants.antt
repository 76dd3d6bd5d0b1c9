use Rattle.std.proofs.Common.{◌≡◌, ◌≤◌, ◌*◌, map, take}
use Rattle.std.specs.List.{sum}
use Rattle.bench_build.proofs.needs.nics_of.Given as goal

abbrev pub invariant-loop-guest : goal.invariant-loop-guest
invariant-loop-guest l = record {
  is : l.nics ≡ sum (map (λ g. g.nics) (take l.guest-index l.guests));
  few : l.nics ≤ 4 * l.guest-index;
}
