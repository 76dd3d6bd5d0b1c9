use Rattle.std.proofs.Common.{◌≡◌, ◌+◌, ◌-◌, ◌≤◌, length, slice_range}
use Rattle.byte_pages.specs.LittleEndian.{with_bytes}
use Rattle.split_queue.specs.Streams.{stream}
use Rattle.blk_dev.proofs.complete.write_pieces.Given as goal

abbrev pub invariant-pieces : goal.invariant-pieces
invariant-pieces l = record {
  done : l.done ≤ l.len;
  buffer : length l.buffer ≡ length l.fn.buffer;
  bytes : l.content.bytes ≡ with_bytes l.fn.content.bytes l.at (slice_range (stream l.ram l.chain.readable) 16 (16 + l.done));
  there : l.content.there ≡ l.fn.content.there;
  size : length l.content.bytes ≡ length l.fn.content.bytes;
}

abbrev pub decreases-pieces : goal.decreases-pieces
decreases-pieces l = l.len - l.done
