-- Pages of a range are made one after the other.
use Rattle.std.proofs.Common.{◌≡◌, ◌⊎◌, ℕ, ◌+◌, ◌*◌, ◌/◌, ◌%◌, ◌<◌, ◌≤◌, min, Bool, true, false, List, length, get_or, set, sym, ap, ◌∙◌, arith, inl, inr}
use Rattle.std.proofs.lemmas.Bool.{cases_eq}
use Rattle.std.proofs.lemmas.List.{get_or-set_same, get_or-set_other, length-set}
use Rattle.byte_pages.specs.Pages.{PageState, page_count, is_there, IsTouched}

-- which pages are there, once those from the first up to another were made
pub record Reserved (old new : List Bool) (first page : ℕ) : Type 0 where
  pub stays : (k : ℕ) → get_or old k false ≡ true → get_or new k false ≡ true
  pub inside : (k : ℕ) → get_or new k false ≡ true → (get_or old k false ≡ true) ⊎ ((first ≤ k) × (k < page))
  pub made : (k : ℕ) → first ≤ k → k < page → get_or new k false ≡ true
  pub count : length new ≡ length old

pub reserved_none : (old new : List Bool) (first : ℕ) → new ≡ old → Reserved old new first first
reserved_none old new first e = record {
  stays = λ k h. ap (λ (b : List Bool). get_or b k false) e ∙ h;
  inside = λ k h. inl (ap (λ (b : List Bool). get_or b k false) (sym e) ∙ h);
  made = λ k l m. absurd (omega (arith, l, m));
  count = ap (length {A = Bool}) e;
}

pub reserved_more : (old new after : List Bool) (first page : ℕ) → Reserved old new first page → first ≤ page → page < length new → after ≡ set new page true → Reserved old after first (page + 1)
reserved_more old new after first page r l inside e =
    let same : get_or after page false ≡ true = ap (λ (b : List Bool). get_or b page false) e ∙ get_or-set_same new page true false inside in
    let other : (k : ℕ) → (k ≡ page → ⊥) → get_or after k false ≡ get_or new k false =
    λ k d. ap (λ (b : List Bool). get_or b k false) e ∙ get_or-set_other new page k true false d in
    record {
      stays = λ k h. elim (cases_eq k page) [ inl i ↦ ap (λ (j : ℕ). get_or after j false) i ∙ same | inr d ↦ other k d ∙ r.stays k h ];
      inside = λ k h. elim (cases_eq k page) [
        | inl i ↦ inr (omega (arith, i, l), omega (arith, i))
        | inr d ↦ elim (r.inside k (sym (other k d) ∙ h)) [ inl was ↦ inl was | inr m ↦ inr (m.0, omega (arith, m.1)) ]
      ];
      made = λ k m n. elim (cases_eq k page) [ inl i ↦ ap (λ (j : ℕ). get_or after j false) i ∙ same | inr d ↦ other k d ∙ r.made k m (omega (arith, n, d)) ];
      count = ap (length {A = Bool}) e ∙ length-set new page true ∙ r.count;
    }

-- a page between those of the first and the last byte of a range has a byte of the range
pub touched : (at len i : ℕ) → at / 4096 ≤ i / 4096 → i / 4096 < (at + len) / 4096 + min 1 ((at + len) % 4096) → 0 < len → IsTouched at len i
touched at len i l m some = elim (cases_eq (at / 4096) (i / 4096)) [
  | inl e ↦ (at, omega arith, omega (arith, some), e)
  | inr d ↦ (4096 * (i / 4096), omega (arith, l, d), omega (arith, m), omega arith)
]

pub page_inside : (old : PageState) (new : List Bool) (at len first page : ℕ) → Reserved old.there new first page → length old.there ≡ page_count (length old.bytes) → at + len ≤ length old.bytes
    → page < (at + len) / 4096 + min 1 ((at + len) % 4096) → page < length new
page_inside old new at len first page r count inside h = omega (arith, r.count, count, inside, h)

-- no page beside those of the range was made
pub reserved_inside : (old new : PageState) (at len page : ℕ) → Reserved old.there new.there (at / 4096) page → page ≤ (at + len) / 4096 + min 1 ((at + len) % 4096) → 0 < len
    → (i : ℕ) → is_there new i ≡ true → (is_there old i ≡ true) ⊎ IsTouched at len i
reserved_inside old new at len page r end some i h = elim (r.inside (i / 4096) h) [
  | inl was ↦ inl was
  | inr m ↦ inr (touched at len i m.0 (omega (arith, m.1, end)) some)
]
