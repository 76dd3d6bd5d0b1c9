use Rattle.rv_word.proofs.Apart.{table_apart}
use Rattle.rv_word.proofs.law.rows_are_apart.Goals as goal

pub returns : goal.returns
returns c = table_apart
