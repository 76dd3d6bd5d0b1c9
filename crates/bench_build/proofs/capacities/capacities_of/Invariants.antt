use Rattle.std.proofs.Common.{◌≡◌, map, take}
use Rattle.bench_build.specs.Setups.{capacity_of}
use Rattle.bench_build.proofs.capacities.capacities_of.Given as goal

abbrev pub invariant-loop-slot : goal.invariant-loop-slot
invariant-loop-slot l = l.capacities.items ≡ map capacity_of (take l.slot-index l.slots)
