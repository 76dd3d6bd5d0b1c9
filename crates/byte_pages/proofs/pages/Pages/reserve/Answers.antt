use Rattle.std.proofs.Common.{◌≡◌, ◌<◌, length, vec_len, inr, arith, sym, ap, true, ◌∙◌}
use Rattle.std.proofs.lemmas.List.{length-replicate}
use Rattle.byte_pages.specs.Pages.{PageState, page_count, is_there}
use Rattle.byte_pages.proofs.Blocks.{block_state, late_state, block_inside, is_zero, above_zero, true_not, empty_len}
use Rattle.byte_pages.proofs.pages.Pages.reserve.Goals.{then-len-eq0, else-len-eq0}
use Rattle.byte_pages.proofs.pages.Pages.reserve.Goals as goal

-- the bytes lay by pages
late_is : (c : goal.After-drop-self-inside-then-made-eq0) → c.self.inside.late ≡ c.args.self.now
late_is c = elim c.if-len-eq0.branch [
  | then-len-eq0 w ↦ absurd (true_not (sym (is_zero c.args.len w.if-len-eq0.true) ∙ sym w.value-is ∙ c.if-not-is_empty.false))
  | else-len-eq0 w ↦ (let none = empty_len (vec_len c.self.inside.block) c.if-len-eq0.value w.is_empty.result c.if-not-is_empty.false w.value-is w.is_empty.ensures in
      sym (late_state c.self.inside.block.items c.self.inside.late (sym c.self.inside.block.ok.0 ∙ none)) ∙ c.self.view_is)
]

some : (c : goal.After-drop-self-inside-then-made-eq0) → 0 < c.args.len
some c = elim c.if-len-eq0.branch [
  | then-len-eq0 w ↦ absurd (true_not (sym (is_zero c.args.len w.if-len-eq0.true) ∙ sym w.value-is ∙ c.if-not-is_empty.false))
  | else-len-eq0 w ↦ above_zero c.args.len w.if-len-eq0.false
]

pub returns-in_ok-self-inside-clause-inside : goal.returns-in_ok-self-inside-clause-inside
returns-in_ok-self-inside-clause-inside c i h =
    let block = c.in_ok-self-inside.field-0.items in
    let long = c.in_ok-self-inside.ensures.length in
    let all = ap (λ (s : PageState). length s.bytes) (late_is c) in
    let was = block_state block c.empty.result (omega (arith, long, some c)) in
    inr (block_inside block c.args.at c.args.len i (omega (arith, c.requires, c.len.ensures, c.if-len.true, all)) (sym long) (some c)
    (ap (λ (s : PageState). is_there s i) (sym was) ∙ h))

pub returns-in_ok-self-inside-clause-count : goal.returns-in_ok-self-inside-clause-count
returns-in_ok-self-inside-clause-count c =
    let block = c.in_ok-self-inside.field-0.items in
    let long = c.in_ok-self-inside.ensures.length in
    let was = block_state block c.empty.result (omega (arith, long, some c)) in
    ap (λ (s : PageState). length s.there) was ∙ length-replicate (page_count (length block)) true
    ∙ ap page_count (long ∙ c.if-len.true ∙ c.len.ensures) ∙ sym c.sizes.ensures.count ∙ ap (λ (s : PageState). length s.there) (late_is c)
