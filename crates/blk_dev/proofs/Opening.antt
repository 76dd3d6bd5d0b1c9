-- The pages of a disk that is set up.
use Rattle.std.proofs.Common.{◌≡◌, ℕ, zero, suc, ◌*◌, ◌-◌, ◌/◌, ◌<◌, ◌≤◌, ◌⊎◌, inl, inr, Bool, true, false, cond, List, length, get_or, replicate, sym, ◌∙◌, ap, arith}
use Rattle.std.specs.Prelude.{count_by}
use Rattle.std.proofs.lemmas.List.Sums.{sum_by-cons, sum_by-append}
use Rattle.std.proofs.lemmas.List.{ext_get_or, length-append, length-replicate, get_or-replicate, get_or_append_left, get_or-append_right}
use Rattle.std.proofs.lemmas.Bool.{cases_Bool, cases_lt, both_ways}
use Rattle.byte_pages.specs.Pages.{PageState, page_count, is_there, AreThere, IsTouched}
use Rattle.blk_dev.specs.MadePages.{opening_there}

module _ (len given : ℕ) (blank opened : PageState) (fits : given ≤ len) (none : blank.there ≡ replicate (page_count len) false) (all : AreThere opened 0 given)
    (inside : (i : ℕ) → is_there opened i ≡ true → (is_there blank i ≡ true) ⊎ IsTouched 0 given i) (count : length opened.there ≡ length blank.there) where
  few : page_count given ≤ page_count len
  few = omega (arith, fits)

  size : length opened.there ≡ page_count len
  size = count ∙ (ap length none ∙ length-replicate (page_count len) false)

  -- page j of a disk, by its first byte
  first_byte : (j : ℕ) → 4096 * j / 4096 ≡ j
  first_byte j = omega arith

  -- the page has bytes that are given
  there : (j : ℕ) → j < page_count given → get_or opened.there j false ≡ true
  there j lt = ap (λ (n : ℕ). get_or opened.there n false) (sym (first_byte j)) ∙ all (4096 * j) (omega arith) (omega (arith, lt))

  -- and this one has none
  absent : (j : ℕ) → page_count given ≤ j → j < page_count len → get_or opened.there j false ≡ false
  absent j ge lt = elim (cases_Bool (get_or opened.there j false)) [
    | inr not ↦ not
    | inl is ↦ absurd (elim (inside (4096 * j) (ap (λ (n : ℕ). get_or opened.there n false) (first_byte j) ∙ is)) [
      | inl was ↦ (let blank_no : get_or blank.there (4096 * j / 4096) false ≡ false =
          ap (λ (n : ℕ). get_or blank.there n false) (first_byte j) ∙ (ap (λ (ts : List Bool). get_or ts j false) none ∙ get_or-replicate (page_count len) j false false lt) in
          both_ways (get_or blank.there (4096 * j / 4096) false) blank_no was)
      | inr (m, low, high, same) ↦ omega (arith, high, same, ge)
    ])
  ]

  wanted : (j : ℕ) → j < page_count len → get_or opened.there j false ≡ get_or (opening_there len given) j false
  wanted j lt =
      let k : ℕ = page_count given in
      let front : List Bool = replicate k true in
      let rest : List Bool = replicate (page_count len - k) false in
      let short : length front ≡ k = length-replicate k true in
      elim (cases_lt j k) [
        | inl below ↦ there j below ∙ sym (get_or_append_left front rest false j (omega (arith, short, below)) ∙ get_or-replicate k j true false below)
        | inr above ↦ absent j above lt ∙ sym (get_or-append_right front rest k j false short above ∙ get_or-replicate (page_count len - k) (j - k) false false (omega (arith, above, lt)))
      ]

  pub opened_there : opened.there ≡ opening_there len given
  opened_there =
      let k : ℕ = page_count given in
      let both : length (opening_there len given) ≡ page_count len =
      omega (arith, length-append (replicate k true) (replicate (page_count len - k) false), length-replicate k true, length-replicate (page_count len - k) false, few) in
      ext_get_or false opened.there (opening_there len given) (size ∙ sym both) (λ j lt. wanted j (omega (arith, lt, size)))

abbrev pub count_there : List Bool → ℕ
count_there ts = count_by (λ (t : Bool). t) ts

count_copies : (n : ℕ) (b : Bool) → count_there (replicate n b) ≡ n * cond b 1 0
count_copies zero b = omega arith
count_copies (suc n) true = sum_by-cons (λ (t : Bool). cond t 1 0) true (replicate n true) ∙ omega (arith, count_copies n true)
count_copies (suc n) false = sum_by-cons (λ (t : Bool). cond t 1 0) false (replicate n false) ∙ omega (arith, count_copies n false)

-- as many pages are there as have bytes that were given
pub count_opening : (len given : ℕ) → count_there (opening_there len given) ≡ page_count given
count_opening len given =
    let k : ℕ = page_count given in
    let n : ℕ = page_count len - k in
    sum_by-append (λ (t : Bool). cond t 1 0) (replicate k true) (replicate n false) ∙ omega (arith, count_copies k true, count_copies n false)
