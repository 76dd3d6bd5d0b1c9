use Rattle.exp_file.proofs.Kept.{kept_disks}
use Rattle.exp_file.proofs.disks.DisksStep.step.Goals as goal

pub returns-clause-kept : goal.returns-clause-kept
returns-clause-kept c = kept_disks c.args.self.now.guests.now c.args.done.now c.disk_of.result c.requires.kept c.disk_of.ensures.well c.disk_of.ensures.room
