use Rattle.std.proofs.Common.{length, sym, ap, ◌∙◌}
use Rattle.byte_pages.specs.Pages.{PageState}
use Rattle.byte_pages.proofs.LateTables.{length_bytes}
use Rattle.byte_pages.proofs.late_pages.LatePages.len.Goals as goal

pub returns : goal.returns
returns c = sym (length_bytes c.self.inside.table.items c.self.inside.len) ∙ ap (λ (s : PageState). length s.bytes) c.self.view_is
