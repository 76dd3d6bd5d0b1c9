use Rattle.std.proofs.Common.{arith, length}
use Rattle.net_dev.proofs.send.frame_len.Goals as goal

pub overflow_cast-result : goal.overflow_cast-result
overflow_cast-result c = omega (arith, c.read_len.ensures.small (length c.args.ram.now) c.requires.0, c.saturating_sub.ensures)
