use Rattle.std.proofs.Common.{sym, ◌∙◌}
use Rattle.byte_pages.proofs.Places.{set_is_with}
use Rattle.byte_pages.proofs.late_pages.LatePages.set.Goals as goal

pub returns-clause-bytes : goal.returns-clause-bytes
returns-clause-bytes c = c.write_piece.ensures.bytes ∙ sym (set_is_with c.args.self.now.bytes c.args.at c.args.v c.requires.inside)
