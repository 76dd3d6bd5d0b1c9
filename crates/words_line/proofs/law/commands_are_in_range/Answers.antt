use Rattle.words_line.proofs.Ranges.{in_range}
use Rattle.words_line.proofs.law.commands_are_in_range.Goals as goal

pub returns : goal.returns
returns c = record { ranges = in_range }
