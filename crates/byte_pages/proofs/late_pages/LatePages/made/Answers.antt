use Rattle.std.proofs.Common.{ℕ, length, replicate, sym, ap, ◌∙◌}
use Rattle.byte_pages.specs.Pages.{PageState}
use Rattle.byte_pages.proofs.LateTables.{length_bytes, none_is_zeros}
use Rattle.byte_pages.proofs.late_pages.LatePages.made.Goals as goal

pub returns-clause-none : goal.returns-clause-none
returns-clause-none c h =
    let bytes = ap (λ (s : PageState). s.bytes) c.self.view_is in
    let long = length_bytes c.self.inside.table.items c.self.inside.len in
    sym bytes ∙ none_is_zeros c.self.inside.table.items c.self.inside.len (sym c.self.invariant.1 ∙ h)
    ∙ ap (λ (n : ℕ). replicate {A = ℕ} n 0) (sym long ∙ ap (length {A = ℕ}) bytes)
