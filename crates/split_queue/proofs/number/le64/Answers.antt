use Rattle.std.proofs.Common.{◌∙◌}
use Rattle.split_queue.proofs.NumberLemmas.{eight_read}
use Rattle.split_queue.proofs.number.le64.Goals as goal

pub returns : goal.returns
returns c = c.from_le_bytes.ensures ∙ eight_read c.args.ram.now _ c.args.addr (c.requires.0, c.take.ensures)
