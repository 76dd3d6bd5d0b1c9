use Rattle.std.proofs.Common.{◌≡◌, ◌+◌, ◌-◌, ◌^◌, ◌<◌, ◌≤◌, length, take, slice_range}
use Rattle.byte_pages.proofs.late_pages.LatePages.read_into.Given as goal

abbrev pub invariant-loop-done : goal.invariant-loop-done
invariant-loop-done l = record {
  inside : l.done ≤ length l.to;
  long : length l.to ≡ length l.initial.to;
  short : l.at + length l.to < 2 ^ 64;
  read : take l.done l.to ≡ slice_range l.self.bytes l.at (l.at + l.done);
}

abbrev pub decreases-loop-done : goal.decreases-loop-done
decreases-loop-done l = length l.to - l.done
