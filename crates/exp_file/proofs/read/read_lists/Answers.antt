use Rattle.std.proofs.Common.{arith}
use Rattle.exp_file.proofs.Kept.{no_guests}
use Rattle.exp_file.proofs.read.read_lists.Goals as goal

pub read_each-requires-2-clause-kept : goal.read_each-requires-2-clause-kept
read_each-requires-2-clause-kept c = no_guests c.len.result (omega (arith, c.len.ensures, c.in_ok-slots.ensures.bound, c.requires.sized.slots_low))
