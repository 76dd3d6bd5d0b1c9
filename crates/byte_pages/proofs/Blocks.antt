-- Bytes in one block.
use Rattle.std.proofs.Common.{◌≡◌, ℕ, zero, suc, ◌/◌, ◌<◌, ◌==◌, if◌then◌else◌, Bool, true, false, not, List, length, replicate, refl, sym, ap, ◌∙◌, arith, inl, inr}
use Rattle.std.proofs.lemmas.Bool.{cases_lt}
use Rattle.std.proofs.lemmas.Bool.Decides.{nat_tests}
use Rattle.std.proofs.lemmas.List.{get_or_past, length-replicate}
use Rattle.byte_pages.specs.Pages.{PageState, page_count, is_there, IsTouched}
use Rattle.byte_pages.specs.Tables.{whole, state_of}
use Rattle.byte_pages.proofs.Reserving.{touched}

not_zero : (n : ℕ) → 0 < n → (n == 0) ≡ false
not_zero n h = grind (arith, nat_tests)

pub is_zero : (n : ℕ) → n ≡ 0 → (n == 0) ≡ true
is_zero n h = grind (arith, nat_tests)

pub above_zero : (n : ℕ) → (n ≡ 0 → ⊥) → 0 < n
above_zero zero h = absurd (h refl)
above_zero (suc n) h = omega arith

pub block_state : (block : List ℕ) (late : PageState) → 0 < length block → state_of block late ≡ whole block
block_state block late some = ap (λ (t : Bool). if t then late else whole block) (not_zero (length block) some)

pub late_state : (block : List ℕ) (late : PageState) → length block ≡ 0 → state_of block late ≡ late
late_state block late none = ap (λ (t : Bool). if t then late else whole block) (is_zero (length block) none)

-- a block holds no page but those of its bytes
pub block_inside : (block : List ℕ) (at len i : ℕ) → at ≡ 0 → len ≡ length block → 0 < len → is_there (whole block) i ≡ true → IsTouched at len i
block_inside block at len i start all some h =
    let count = length-replicate (page_count (length block)) true in
    touched at len i (omega (arith, start)) (elim (cases_lt (i / 4096) (page_count (length block))) [
      | inl l ↦ omega (arith, l, all, start)
      | inr l ↦ (let e : false ≡ true = sym (get_or_past (replicate (page_count (length block)) true) (i / 4096) false (omega (arith, count, l))) ∙ h in absurd (cc e))
    ]) some

pub true_not : true ≡ false → ⊥
true_not e = cc e

pub empty_len : (n : ℕ) (some empty : Bool) → some ≡ false → some ≡ not empty → empty ≡ (n == 0) → n ≡ 0
empty_len n some true h e is = grind (arith, nat_tests)
empty_len n some false h e is = absurd (true_not (sym e ∙ h))
