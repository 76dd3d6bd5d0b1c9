use Rattle.std.proofs.Common.{refl}
use Rattle.bench_build.specs.Setups.{nic_config}
use Rattle.bench_build.proofs.GuestNics.{numbered_push}
use Rattle.bench_build.proofs.nics.nics_for.Goals as goal

pub loop-nic-preserved : goal.loop-nic-preserved
loop-nic-preserved c =
    let l = c.loop-nic in
    let nic = nic_config c.args.guest c.args.disks in
    numbered_push nic l.configs.items c.push.new.self.items l.nic (nic l.nic) c.in-Ok.ensures.items l.invariant refl
