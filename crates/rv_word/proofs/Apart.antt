-- No word matches two rows.
use Rattle.std.proofs.Common.{◌≡◌, ℕ, ◌+◌, ◌≤◌, Bool, true, false, eqb, cond, List, [], ◌∷◌, refl, sym, ◌∙◌, ap, arith, bit_and, ◌⊎◌, inl, inr, count_by}
use Rattle.std.proofs.lemmas.Nat.{and_assoc, and_comm}
use Rattle.std.proofs.lemmas.Bool.{false≢true}
use Rattle.std.proofs.lemmas.Bool.Decides.{eqb_tells}
use Rattle.std.proofs.lemmas.List.Sums.{sum_by-cons}
use Rattle.rv_word.specs.Table.{Row, row_matches, table}

-- under both masks the values of the rows differ
parted : Row → Row → Bool
parted r s = cond (eqb (bit_and r.value s.mask) (bit_and s.value r.mask)) false true

parted_from : Row → List Row → Bool
parted_from r [] = true
parted_from r (s ∷ rs) = cond (parted r s) (parted_from r rs) false

all_parted : List Row → Bool
all_parted [] = true
all_parted (r ∷ rs) = cond (parted_from r rs) (all_parted rs) false

-- a word that matches both rows shows the same bits under both masks
same_under_both : (w : ℕ) (r s : Row) → bit_and w r.mask ≡ r.value → bit_and w s.mask ≡ s.value → bit_and r.value s.mask ≡ bit_and s.value r.mask
same_under_both w r s e f =
    ap (λ n. bit_and n s.mask) (sym e) ∙ and_assoc s.mask w r.mask ∙ ap (λ n. bit_and w n) (and_comm r.mask s.mask)
    ∙ sym (and_assoc r.mask w s.mask) ∙ ap (λ n. bit_and n r.mask) f

-- both tests of a list's first row
both_tests : (b c : Bool) → cond b c false ≡ true → (b ≡ true) × (c ≡ true)
both_tests true c e = (refl, e)
both_tests false c e = absurd (false≢true e)

parted_tells : (a b : ℕ) → a ≡ b → cond (eqb a b) false true ≡ true → ((eqb a b ≡ true) × (a ≡ b)) ⊎ ((eqb a b ≡ false) × (a ≡ b → ⊥)) → ⊥
parted_tells a b e p (inl (t, _)) = false≢true (rw t at p)
parted_tells a b e p (inr (_, n)) = n e

-- a row that is parted from one that matches does not match
other_fails : (w : ℕ) (r s : Row) → bit_and w r.mask ≡ r.value → parted r s ≡ true → ((eqb (bit_and w s.mask) s.value ≡ true) × (bit_and w s.mask ≡ s.value)) ⊎ ((eqb (bit_and w s.mask) s.value ≡ false) × (bit_and w s.mask ≡ s.value → ⊥)) → row_matches w s ≡ false
unfolding parted
other_fails w r s e p (inl (_, f)) = absurd (parted_tells _ _ (same_under_both w r s e f) p (eqb_tells (bit_and r.value s.mask) (bit_and s.value r.mask)))
other_fails w r s e p (inr (t, _)) = t

none_match : (w : ℕ) (r : Row) (rs : List Row) → bit_and w r.mask ≡ r.value → parted_from r rs ≡ true → count_by (row_matches w) rs ≡ 0
unfolding parted_from
none_match w r [] e p = refl
none_match w r (s ∷ rs) e p =
    let both : (parted r s ≡ true) × (parted_from r rs ≡ true) = both_tests _ _ p in
    let here : row_matches w s ≡ false = other_fails w r s e both.0 (eqb_tells (bit_and w s.mask) s.value) in
    let rest : count_by (row_matches w) rs ≡ 0 = none_match w r rs e both.1 in
    sum_by-cons (λ x. cond (row_matches w x) 1 0) s rs ∙ ap (λ b. cond b 1 0 + count_by (row_matches w) rs) here ∙ rw rest refl

one_more : (w : ℕ) (r : Row) (rs : List Row) → parted_from r rs ≡ true → count_by (row_matches w) rs ≤ 1 → ((eqb (bit_and w r.mask) r.value ≡ true) × (bit_and w r.mask ≡ r.value)) ⊎ ((eqb (bit_and w r.mask) r.value ≡ false) × (bit_and w r.mask ≡ r.value → ⊥)) → count_by (row_matches w) (r ∷ rs) ≤ 1
one_more w r rs p h (inl (t, e)) =
    let rest : count_by (row_matches w) rs ≡ 0 = none_match w r rs e p in
    let here : row_matches w r ≡ true = t in
    let whole : count_by (row_matches w) (r ∷ rs) ≡ cond (row_matches w r) 1 0 + count_by (row_matches w) rs = sum_by-cons (λ x. cond (row_matches w x) 1 0) r rs in
    let sum : count_by (row_matches w) (r ∷ rs) ≡ 1 + 0 = whole ∙ ap (λ b. cond b 1 0 + count_by (row_matches w) rs) here ∙ ap (λ n. 1 + n) rest in
    omega (arith, sum)
one_more w r rs p h (inr (t, _)) =
    let here : row_matches w r ≡ false = t in
    let whole : count_by (row_matches w) (r ∷ rs) ≡ cond (row_matches w r) 1 0 + count_by (row_matches w) rs = sum_by-cons (λ x. cond (row_matches w x) 1 0) r rs in
    let sum : count_by (row_matches w) (r ∷ rs) ≡ 0 + count_by (row_matches w) rs = whole ∙ ap (λ b. cond b 1 0 + count_by (row_matches w) rs) here in
    omega (arith, sum)

at_most_one : (w : ℕ) (rs : List Row) → all_parted rs ≡ true → count_by (row_matches w) rs ≤ 1
unfolding all_parted
at_most_one w [] p = omega arith
at_most_one w (r ∷ rs) p =
    let both : (parted_from r rs ≡ true) × (all_parted rs ≡ true) = both_tests _ _ p in
    one_more w r rs both.0 (at_most_one w rs both.1) (eqb_tells (bit_and w r.mask) r.value)

table_parted : all_parted table ≡ true
unfolding all_parted parted_from parted table
table_parted = refl

pub table_apart : (w : ℕ) → count_by (row_matches w) table ≤ 1
table_apart w = at_most_one w table table_parted
