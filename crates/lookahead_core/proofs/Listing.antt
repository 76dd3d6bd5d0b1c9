-- How the indexes of a node's links are found.
use Rattle.std.proofs.Common.{◌≡◌, ℕ, zero, suc, ◌+◌, ◌<◌, Bool, true, false, cond, List, [], ◌∷◌, ◌++◌, take, length, get_or, slice_get, Some, ◌⊎◌, inl, inr, refl, sym, ◌∙◌, ap, subst, arith}
use Rattle.std.proofs.lemmas.List.{take_more}
use Rattle.lookahead_core.specs.Ways.{AllWays, AreWays, indexes_from}
use Rattle.lookahead_core.specs.declared.ways.Ways.{Ways}
use Rattle.lookahead_core.specs.declared.wire.Wire.{Wire}

-- one wire more
end_case : (p q : Bool) (k m n : ℕ) (xs : List ℕ) → m ≡ n →
    cond p (k ∷ cond q (xs ++ m ∷ []) xs) (cond q (xs ++ m ∷ []) xs) ≡ cond q (cond p (k ∷ xs) xs ++ n ∷ []) (cond p (k ∷ xs) xs)
end_case true true k m n xs e = ap (λ j. k ∷ (xs ++ j ∷ [])) e
end_case true false k m n xs e = refl
end_case false true k m n xs e = ap (λ j. xs ++ j ∷ []) e
end_case false false k m n xs e = refl

first_case : (q : Bool) (k n : ℕ) → k ≡ n → cond q (k ∷ []) [] ≡ cond q (n ∷ []) []
first_case true k n e = ap (λ j. j ∷ []) e
first_case false k n e = refl

indexes_end : (passes : Wire → Bool) (k : ℕ) (ws : List Wire) (w : Wire) →
    indexes_from passes k (ws ++ w ∷ []) ≡ cond (passes w) (indexes_from passes k ws ++ (k + length ws) ∷ []) (indexes_from passes k ws)
indexes_end passes k [] w = first_case (passes w) k (k + 0) (omega arith)
indexes_end passes k (v ∷ ws) w =
    ap (λ xs. cond (passes v) (k ∷ xs) xs) (indexes_end passes (k + 1) ws w)
    ∙ end_case (passes v) (passes w) k (k + 1 + length ws) (k + suc (length ws)) (indexes_from passes (k + 1) ws) (omega arith)

length_take : {X : Type 0} (xs : List X) (k : ℕ) → k < length xs → length (take k xs) ≡ k
length_take [] k lt = absurd (omega arith)
length_take (x ∷ xs) zero lt = refl
length_take (x ∷ xs) (suc k) lt = ap suc (length_take xs k (omega arith))

pub indexes_more : (passes : Wire → Bool) (wires : List Wire) (k : ℕ) (d : Wire) (old new : List ℕ) → k < length wires → old ≡ indexes_from passes 0 (take k wires) →
    new ≡ cond (passes (get_or wires k d)) (old ++ k ∷ []) old → new ≡ indexes_from passes 0 (take (k + 1) wires)
indexes_more passes wires k d old new lt is e =
    let at : k ≡ 0 + length (take k wires) = omega (arith, length_take wires k lt) in
    e ∙ ap (λ xs. cond (passes (get_or wires k d)) (xs ++ k ∷ []) xs) is
    ∙ ap (λ (j : ℕ). cond (passes (get_or wires k d)) (indexes_from passes 0 (take k wires) ++ j ∷ []) (indexes_from passes 0 (take k wires))) at
    ∙ sym (indexes_end passes 0 (take k wires) (get_or wires k d)) ∙ ap (indexes_from passes 0) (sym (take_more wires k d lt))

-- the ways of one node more
get_end : {X : Type 0} (xs : List X) (x y : X) (g : ℕ) → slice_get (xs ++ x ∷ []) g ≡ Some y → (slice_get xs g ≡ Some y) ⊎ ((g ≡ length xs) × (x ≡ y))
get_end [] x y zero e = let h : x ≡ y = cc in inr (refl, h)
get_end [] x y (suc g) e = cc
get_end (z ∷ xs) x y zero e = inl e
get_end (z ∷ xs) x y (suc g) e = elim (get_end xs x y g e) [ inl h ↦ inl h | inr h ↦ inr (ap suc h.0, h.1) ]

length_end : {X : Type 0} (xs : List X) (x : X) → length (xs ++ x ∷ []) ≡ length xs + 1
length_end [] x = omega arith
length_end (z ∷ xs) x = let h : length (xs ++ x ∷ []) ≡ length xs + 1 = length_end xs x in omega arith

pub ways_more : (n : ℕ) (ways new : List Ways) (own : Ways) (wires : List Wire) → AllWays n ways wires → AreWays n own wires → new ≡ ways ++ own ∷ [] → AllWays (n + 1) new wires
ways_more n ways new own wires all is e = record {
  count = ap length e ∙ length_end ways own ∙ ap (λ (k : ℕ). k + 1) all.count;
  each = λ g way h. elim (get_end ways own way g (ap (λ ws. slice_get ws g) (sym e) ∙ h)) [
    | inl old ↦ all.each g way old
    | inr last ↦ subst (λ w. AreWays g w wires) last.1 (subst (λ k. AreWays k own wires) (sym (last.0 ∙ all.count)) is)
  ];
}
