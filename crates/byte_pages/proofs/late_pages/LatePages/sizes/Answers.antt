use Rattle.std.proofs.Common.{length, sym, ap, ◌∙◌, arith}
use Rattle.byte_pages.specs.Pages.{PageState, page_count}
use Rattle.byte_pages.proofs.LateTables.{length_bytes, length_there}
use Rattle.byte_pages.proofs.late_pages.LatePages.sizes.Goals as goal

pub returns-clause-short : goal.returns-clause-short
returns-clause-short c =
    let long = length_bytes c.self.inside.table.items c.self.inside.len in
    let same = ap (λ (s : PageState). length s.bytes) c.self.view_is in
    omega (arith, long, same)

pub returns-clause-count : goal.returns-clause-count
returns-clause-count c =
    let bytes = ap (λ (s : PageState). length s.bytes) c.self.view_is in
    let there = ap (λ (s : PageState). length s.there) c.self.view_is in
    let long = length_bytes c.self.inside.table.items c.self.inside.len in
    let count = length_there c.self.inside.table.items in
    sym there ∙ count ∙ c.self.invariant.0 ∙ ap page_count (sym long ∙ bytes)
