use Rattle.std.proofs.Common.{◌≡◌, ◌≤◌, map, drop, length}
use Rattle.dev_list.specs.Walks.{external_bits}
use Rattle.dev_list.proofs.access.external_bits.Given as goal

abbrev pub invariant-loop-at : goal.invariant-loop-at
invariant-loop-at g l = record {
  low : l.first ≤ l.at;
  within : l.at ≤ length l.devices;
  bits : l.bits ≡ external_bits (drop l.at (map g.D.Device.state l.devices)) l.now;
}

abbrev pub decreases-loop-at : goal.decreases-loop-at
decreases-loop-at g l = l.at
