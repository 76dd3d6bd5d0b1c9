use Rattle.split_queue.proofs.WriteLemmas.{written_append}
use Rattle.split_queue.proofs.law.writes_are_joined.Goals as goal

pub returns : goal.returns
returns c = written_append
