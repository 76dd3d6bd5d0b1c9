use Rattle.exp_file.proofs.Few.{guests_few}
use Rattle.exp_file.proofs.law.guests_are_few.Goals as goal

pub returns : goal.returns
returns c = record { few = guests_few }
