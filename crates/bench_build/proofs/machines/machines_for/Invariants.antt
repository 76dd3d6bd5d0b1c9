use Rattle.std.proofs.Common.{◌≡◌, ◌+◌, map, length, All}
use Rattle.dev_face.specs.States.{opening}
use Rattle.dev_face.specs.declared.kind.Kind.{Kind}
use Rattle.exp_file.specs.Links.{nics_of}
use Rattle.lookahead_core.specs.Motion.{Idle}
use Rattle.guest_machine.specs.MachineView.{machine_state, machine_clock}
use Rattle.bench_build.specs.Openings.{openings}
use Rattle.bench_build.specs.Setups.{pipes_at}
use Rattle.bench_build.specs.Stocks.{IsStock, counts, items_of}
use Rattle.bench_build.specs.Takings.{with_base, others_at, guests_take}
use Rattle.bench_build.proofs.machines.machines_for.Given as goal

abbrev pub invariant-loop-image : goal.invariant-loop-image
invariant-loop-image g l = record {
  states : map machine_state l.machines.items
      ≡ openings (λ n. map opening (with_base (others_at l.guests l.disks n))) (λ n. pipes_at l.links n (nics_of l.guests n)) l.guests l.yielded;
  count : length l.machines.items ≡ length l.yielded;
  idle : All (λ m. machine_clock m ≡ Idle 0) l.machines.items;
  stock : IsStock g.D.Device.state (items_of l.stock);
  left : (k : Kind) → counts (items_of l.stock) k + guests_take k (others_at l.guests l.disks) (length l.yielded) ≡ counts (items_of l.fn.stock) k;
}
