-- What holds of the chain of a request that is in flight.
use Rattle.std.specs.Prelude.{◌<◌, ◌≤◌, ◌^◌}
use Rattle.split_queue.specs.Chains.{ChainOf}
use Rattle.split_queue.specs.Streams.{stream_len}

-- it has a header and a status, its head is one of a queue, and its streams are no longer than what 64 descriptors have
pub record IsRequest (c : ChainOf) : Type 0 where
  pub head : c.head < 64
  pub header : 16 ≤ stream_len c.readable
  pub status : 1 ≤ stream_len c.writable
  pub readable : stream_len c.readable ≤ 2 ^ 30
  pub writable : stream_len c.writable ≤ 2 ^ 30
