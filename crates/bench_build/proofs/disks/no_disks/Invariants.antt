use Rattle.std.proofs.Common.{◌≡◌, ℕ, [], length}
use Rattle.bench_build.specs.Takings.{disks_at}
use Rattle.bench_build.proofs.disks.no_disks.Given as goal

abbrev pub invariant-loop : goal.invariant-loop
invariant-loop l = record {
  count : length l.lists.items ≡ l.counter;
  none : (g : ℕ) → disks_at l.lists.items g ≡ [];
}
