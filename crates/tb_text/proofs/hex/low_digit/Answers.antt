use Rattle.tb_text.proofs.PairLemmas.{low_of_pair}
use Rattle.tb_text.proofs.hex.low_digit.Goals as goal

pub returns : goal.returns
returns c = low_of_pair c.args.b c.requires
