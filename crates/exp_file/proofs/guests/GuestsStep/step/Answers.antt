use Rattle.exp_file.proofs.Kept.{kept_guests}
use Rattle.exp_file.proofs.guests.GuestsStep.step.Goals as goal

pub returns-clause-kept : goal.returns-clause-kept
returns-clause-kept c = kept_guests c.args.self.now.slots c.args.done.now c.in_ok-guest.guest c.once.result c.requires.kept c.in_ok-guest.ensures.well c.once.ensures.same c.once.ensures.new
