use Rattle.std.proofs.Common.{◌≡◌, take}
use Rattle.std.specs.List.{flat_map}
use Rattle.bench_build.specs.Setups.{wires_of}
use Rattle.bench_build.proofs.wires.wires_for.Given as goal

abbrev pub invariant-loop-link : goal.invariant-loop-link
invariant-loop-link l = l.wires.items ≡ flat_map wires_of (take l.link-index l.links)
