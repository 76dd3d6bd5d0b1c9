use Rattle.tb_text.proofs.PairLemmas.{high_of_pair}
use Rattle.tb_text.proofs.hex.high_digit.Goals as goal

pub returns : goal.returns
returns c = high_of_pair c.args.b c.requires
