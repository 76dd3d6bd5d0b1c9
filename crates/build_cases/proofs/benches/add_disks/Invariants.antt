use Rattle.std.proofs.Common.{◌≡◌, ◌+◌}
use Rattle.bench_build.specs.Building.{images_added, images_wanted, disks_added, disks_wanted}
use Rattle.build_cases.proofs.benches.add_disks.Given as goal

abbrev pub invariant-loop-disk : goal.invariant-loop-disk
invariant-loop-disk l = record {
  added : disks_added l.builder ≡ disks_added l.fn.builder + l.disk;
  wanted : disks_wanted l.builder ≡ disks_wanted l.fn.builder;
  images_added : images_added l.builder ≡ images_added l.fn.builder;
  images_wanted : images_wanted l.builder ≡ images_wanted l.fn.builder;
}
