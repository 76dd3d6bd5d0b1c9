use Rattle.std.proofs.Common.{◌≡◌, ◌+◌, ◌-◌, ◌≤◌, length, drop}
use Rattle.split_queue.specs.Streams.{stream_len, RangesIn, written}
use Rattle.split_queue.proofs.stream.stream_write.Given as goal

abbrev pub invariant-loop-range : goal.invariant-loop-range
invariant-loop-range l = record {
  done : l.done ≤ length l.from;
  size : length l.ram ≡ length l.initial.ram;
  ranges : RangesIn l.ram (drop l.range-index l.ranges);
  inside : l.skip + (length l.from - l.done) ≤ stream_len (drop l.range-index l.ranges);
  rest : written l.ram (drop l.range-index l.ranges) l.skip (drop l.done l.from) ≡ written l.initial.ram l.ranges l.pos l.from;
}
