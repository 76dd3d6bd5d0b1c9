use Rattle.exp_file.proofs.Few.{nics_few}
use Rattle.exp_file.proofs.law.nics_are_few.Goals as goal

pub returns : goal.returns
returns c = record { few = nics_few }
