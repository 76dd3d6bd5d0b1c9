use Rattle.std.proofs.Common.{◌≡◌, ℕ, ◌+◌, ◌<◌, Bool, true, false, is_some, not, Some, length, set, sym, ap, ◌∙◌, arith}
use Rattle.byte_pages.specs.Pages.{PageState}
use Rattle.std.proofs.lemmas.List.{length-set}
use Rattle.byte_pages.proofs.LateTables.{length_there, one_more, page_made, there_put, entry, none_is, there_already}
use Rattle.byte_pages.proofs.late_pages.LatePages.make.Goals as goal

pub invariant_of-self : goal.invariant_of-self
invariant_of-self c =
    let t = c.self.inside.table.items in
    let there = ap (λ (s : PageState). s.there) c.self.view_is in
    let count = length_there t in
    let same = ap (length {A = Bool}) there in
    let inside : c.args.page < length t = omega (arith, c.requires, count, same) in
    let e : is_some c.index.result.now ≡ false = c.is_none.ensures ∙ ap not c.if-is_none.true in
    let is = entry t c.args.page c.index.result.now inside c.index.ensures ∙ none_is c.index.result.now e in (
      length-set t c.args.page (Some c.in_ok-made.made) ∙ c.self.invariant.0,
      ap (λ (n : ℕ). n + 1) c.self.invariant.1 ∙ sym (one_more t c.args.page c.in_ok-made.made is inside),
    )

pub returns-in_ok-made-clause-bytes : goal.returns-in_ok-made-clause-bytes
returns-in_ok-made-clause-bytes c =
    let t = c.self.inside.table.items in
    let there = ap (λ (s : PageState). s.there) c.self.view_is in
    let count = length_there t in
    let same = ap (length {A = Bool}) there in
    let inside : c.args.page < length t = omega (arith, c.requires, count, same) in
    let e : is_some c.index.result.now ≡ false = c.is_none.ensures ∙ ap not c.if-is_none.true in
    let is = entry t c.args.page c.index.result.now inside c.index.ensures ∙ none_is c.index.result.now e in
    page_made t c.self.inside.len c.args.page c.in_ok-made.made is inside (λ i. c.in_ok-made.ensures i) ∙ ap (λ (s : PageState). s.bytes) c.self.view_is

pub returns-in_ok-made-clause-there : goal.returns-in_ok-made-clause-there
returns-in_ok-made-clause-there c =
    there_put c.self.inside.table.items c.args.page c.in_ok-made.made ∙ ap (λ (s : PageState). set s.there c.args.page true) c.self.view_is

pub returns-else-is_none-clause-there : goal.returns-else-is_none-clause-there
returns-else-is_none-clause-there c =
    let t = c.self.inside.table.items in
    let there = ap (λ (s : PageState). s.there) c.self.view_is in
    let count = length_there t in
    let same = ap (length {A = Bool}) there in
    let inside : c.args.page < length t = omega (arith, c.requires, count, same) in
    let e : is_some c.index.result.now ≡ true = c.is_none.ensures ∙ ap not c.if-is_none.false in
    there_already t c.args.self.now.there c.args.page there (ap is_some (entry t c.args.page c.index.result.now inside c.index.ensures) ∙ e)
