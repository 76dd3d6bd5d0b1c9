use Rattle.std.proofs.Common.{◌≡◌}
use Rattle.bench_build.specs.Setups.{pipes_at}
use Rattle.bench_build.proofs.pipes.pipes_for.Given as goal

abbrev pub invariant-loop-nic : goal.invariant-loop-nic
invariant-loop-nic l = l.pipes.items ≡ pipes_at l.links l.guest l.nic
