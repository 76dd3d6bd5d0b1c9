use Rattle.std.proofs.Common.{◌≡◌, ℕ, ◌<◌, length, take}
use Rattle.bench_build.specs.Setups.{disk_configs}
use Rattle.bench_build.specs.Takings.{disks_at}
use Rattle.bench_build.proofs.disks.disks_by_guest.Given as goal

abbrev pub invariant-loop-content : goal.invariant-loop-content
invariant-loop-content l = record {
  at : l.index ≡ length l.yielded;
  count : length l.lists.items ≡ l.guests;
  each : (g : ℕ) → g < l.guests → disks_at l.lists.items g ≡ disk_configs g 0 (take l.index l.specs) l.yielded;
}
