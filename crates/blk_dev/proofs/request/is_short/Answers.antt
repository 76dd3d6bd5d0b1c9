use Rattle.std.proofs.Common.{arith}
use Rattle.blk_dev.proofs.request.is_short.Goals as goal

pub returns-then-readable-lt-HEADER-clause-small : goal.returns-then-readable-lt-HEADER-clause-small
returns-then-readable-lt-HEADER-clause-small c n h = (omega (arith, c.read_len-readable.ensures.small n h.0), omega (arith, c.write_len-writable.ensures.small n h.1))

pub returns-else-readable-lt-HEADER-clause-small : goal.returns-else-readable-lt-HEADER-clause-small
returns-else-readable-lt-HEADER-clause-small c n h = (omega (arith, c.read_len-readable.ensures.small n h.0), omega (arith, c.write_len-writable.ensures.small n h.1))
