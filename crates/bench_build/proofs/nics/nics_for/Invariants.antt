use Rattle.std.proofs.Common.{◌≡◌}
use Rattle.bench_build.specs.Setups.{nic_configs}
use Rattle.bench_build.proofs.nics.nics_for.Given as goal

abbrev pub invariant-loop-nic : goal.invariant-loop-nic
invariant-loop-nic l = l.configs.items ≡ nic_configs l.guest l.disks l.nic
