use Rattle.exp_file.proofs.Kept.{kept_slots}
use Rattle.exp_file.proofs.slots.SlotsStep.step.Goals as goal

pub returns-clause-kept : goal.returns-clause-kept
returns-clause-kept c = kept_slots c.args.done.now c.read_slot.result c.requires.kept c.read_slot.ensures.well
