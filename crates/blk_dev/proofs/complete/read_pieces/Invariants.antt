use Rattle.std.proofs.Common.{◌≡◌, ◌+◌, ◌-◌, ◌≤◌, length, slice_range}
use Rattle.split_queue.specs.Streams.{written}
use Rattle.blk_dev.proofs.complete.read_pieces.Given as goal

abbrev pub invariant-pieces : goal.invariant-pieces
invariant-pieces l = record {
  done : l.done ≤ l.len;
  buffer : length l.buffer ≡ length l.fn.buffer;
  ram : l.ram ≡ written l.fn.ram l.chain.writable 0 (slice_range l.content.bytes l.at (l.at + l.done));
  size : length l.ram ≡ length l.fn.ram;
}

abbrev pub decreases-pieces : goal.decreases-pieces
decreases-pieces l = l.len - l.done
