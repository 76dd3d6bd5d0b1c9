use Rattle.std.proofs.Common.{◌≡◌, ◌≤◌, ◌-◌, length, replicate}
use Rattle.guest_ram.specs.Bytes.{ram_after}
use Rattle.elf_image.proofs.place.put_zeros.Given as goal

abbrev pub invariant-loop-done : goal.invariant-loop-done
invariant-loop-done l = record {
  within : l.done ≤ l.count;
  bytes : l.ram ≡ ram_after l.fn.ram l.addr (replicate l.done 0);
  size : length l.ram ≡ length l.fn.ram;
}

abbrev pub decreases-loop-done : goal.decreases-loop-done
decreases-loop-done l = l.count - l.done
