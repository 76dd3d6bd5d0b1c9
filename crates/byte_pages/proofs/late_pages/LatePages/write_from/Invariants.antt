use Rattle.std.proofs.Common.{◌≡◌, ◌+◌, ◌-◌, ◌^◌, ◌<◌, ◌≤◌, length, take}
use Rattle.byte_pages.specs.LittleEndian.{with_bytes}
use Rattle.byte_pages.proofs.late_pages.LatePages.write_from.Given as goal

abbrev pub invariant-loop-done : goal.invariant-loop-done
invariant-loop-done l = record {
  inside : l.done ≤ length l.from;
  long : length l.self.bytes ≡ length l.initial.self.bytes;
  short : l.at + length l.from < 2 ^ 64;
  written : l.self.bytes ≡ with_bytes l.initial.self.bytes l.at (take l.done l.from);
  there : l.self.there ≡ l.initial.self.there;
}

abbrev pub decreases-loop-done : goal.decreases-loop-done
decreases-loop-done l = length l.from - l.done
