use Rattle.std.proofs.Common.{◌≡◌, ◌+◌, ◌-◌, ◌≤◌, ◌++◌, length, take, drop}
use Rattle.split_queue.specs.Streams.{stream, stream_len, RangesIn}
use Rattle.split_queue.proofs.stream.stream_read.Given as goal

abbrev pub invariant-loop-range : goal.invariant-loop-range
invariant-loop-range l = record {
  done : l.done ≤ length l.to;
  ranges : RangesIn l.ram (drop l.range-index l.ranges);
  inside : l.skip + (length l.to - l.done) ≤ stream_len (drop l.range-index l.ranges);
  rest : take l.done l.to ++ take (length l.to - l.done) (drop l.skip (stream l.ram (drop l.range-index l.ranges))) ≡ take (length l.to) (drop l.pos (stream l.ram l.ranges));
}
