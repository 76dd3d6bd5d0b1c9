use Rattle.exp_file.proofs.Few.{disks_few}
use Rattle.exp_file.proofs.law.disks_are_few.Goals as goal

pub returns : goal.returns
returns c = record { few = disks_few }
