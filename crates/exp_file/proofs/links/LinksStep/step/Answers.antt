use Rattle.exp_file.proofs.Kept.{kept_links}
use Rattle.exp_file.proofs.links.LinksStep.step.Goals as goal

pub returns-clause-kept : goal.returns-clause-kept
returns-clause-kept c = kept_links c.args.self.now.guests.now c.args.done.now c.link_ends.result c.requires.kept c.link_ends.ensures.well c.link_ends.ensures.free
