use Rattle.std.proofs.Common.{◌≡◌, ◌+◌}
use Rattle.bench_build.specs.Building.{images_added, images_wanted, disks_added, disks_wanted}
use Rattle.build_cases.proofs.benches.add_images.Given as goal

abbrev pub invariant-loop : goal.invariant-loop
invariant-loop l = record {
  added : images_added l.builder ≡ images_added l.fn.builder + l.counter;
  wanted : images_wanted l.builder ≡ images_wanted l.fn.builder;
  disks_added : disks_added l.builder ≡ disks_added l.fn.builder;
  disks_wanted : disks_wanted l.builder ≡ disks_wanted l.fn.builder;
}
