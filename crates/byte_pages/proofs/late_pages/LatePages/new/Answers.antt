use Rattle.std.proofs.Common.{◌≡◌, ℕ, Bool, List, Option, None, length, sym, ap, ◌∙◌, arith}
use Rattle.std.specs.List.{count_by}
use Rattle.std.proofs.lemmas.List.{length-replicate}
use Rattle.byte_pages.specs.Pages.{page_count}
use Rattle.byte_pages.specs.Tables.{there_of}
use Rattle.byte_pages.proofs.LateTables.{new_there, new_count, new_state}
use Rattle.byte_pages.proofs.late_pages.LatePages.new.Goals as goal

pub invariant_of-result : goal.invariant_of-result
invariant_of-result c =
    let n : c.loop.counter ≡ page_count c.args.len = omega (arith, c.loop-test.false, c.loop.auto.counter-end, c.div_ceil-end.ensures) in
    let items = c.loop.invariant in (
      ap (length {A = Option (List ℕ)}) items ∙ length-replicate {A = Option (List ℕ)} c.loop.counter None ∙ n,
      sym (ap (λ (t : List (Option (List ℕ))). count_by (λ (b : Bool). b) (there_of t)) items ∙ ap (count_by (λ (b : Bool). b)) (new_there c.loop.counter) ∙ new_count c.loop.counter),
    )

pub returns : goal.returns
returns c =
    let n : c.loop.counter ≡ page_count c.args.len = omega (arith, c.loop-test.false, c.loop.auto.counter-end, c.div_ceil-end.ensures) in
    new_state c.loop.table.items c.loop.counter c.args.len c.loop.invariant n
