-- Walks over the links of one node, in the order of their indexes: the links between them are not the node's.
use Rattle.std.proofs.Common.{◌≡◌, ℕ, zero, suc, ◌+◌, ◌<◌, ◌≤◌, Bool, true, false, cond, List, [], ◌∷◌, ◌++◌, map, take, drop, length, get_or, inl, inr, refl, sym, ◌∙◌, ap, subst, arith, add-one}
use Rattle.std.proofs.Math.ListN.{get_or-map, length-map}
use Rattle.std.proofs.Math.Nat.{eq-or-lt_of_le}
use Rattle.std.proofs.lemmas.List.{drop_more}
use Rattle.lookahead_core.specs.Links.{wires_in}
use Rattle.lookahead_core.specs.Ways.{indexes_from}
use Rattle.lookahead_core.specs.declared.link.Link.{Link}
use Rattle.lookahead_core.specs.declared.wire.Wire.{Wire}

-- what is left of a list
drop_head : {X : Type 0} (xs ys : List X) (m : ℕ) (x d : X) → drop m xs ≡ x ∷ ys → (m < length xs) × (get_or xs m d ≡ x) × (drop (m + 1) xs ≡ ys)
drop_head [] ys zero x d e = cc
drop_head [] ys (suc m) x d e = cc
drop_head (z ∷ xs) ys zero x d e = let h : z ≡ x = cc in let t : xs ≡ ys = cc in (omega arith, h, t)
drop_head (z ∷ xs) ys (suc m) x d e =
    let at = drop_head xs ys m x d e in
    let t : drop (suc m) xs ≡ ys = rw add-one at at.2 in
    (omega (arith, at.0), at.1, rw add-one t)

drop_none : {X : Type 0} (xs : List X) (m : ℕ) → drop m xs ≡ [] → length xs ≤ m
drop_none [] m e = omega arith
drop_none (x ∷ xs) zero e = cc
drop_none (x ∷ xs) (suc m) e = omega (arith, drop_none xs m e)

drop_all : {X : Type 0} (xs : List X) (m : ℕ) → length xs ≤ m → drop m xs ≡ []
drop_all [] zero le = refl
drop_all [] (suc m) le = refl
drop_all (x ∷ xs) zero le = absurd (omega arith)
drop_all (x ∷ xs) (suc m) le = drop_all xs m (omega arith)

-- a walk over wires that goes on from index m: i is the next index, rest are those after it
record Next (passes : Wire → Bool) (wires : List Wire) (m i : ℕ) (rest : List ℕ) : Type 0 where
  least : m ≤ i
  inside : i < length wires
  is_one : (d : Wire) → passes (get_or wires i d) ≡ true
  none_between : (k : ℕ) (d : Wire) → m ≤ k → k < i → passes (get_or wires k d) ≡ false
  rest_is : rest ≡ indexes_from passes (i + 1) (drop (i + 1) wires)

module _ (passes : Wire → Bool) (wires : List Wire) where
  next_case : (w : Wire) (ws : List Wire) (m i : ℕ) (rest : List ℕ) (b : Bool) → passes w ≡ b → drop m wires ≡ w ∷ ws →
      i ∷ rest ≡ cond b (m ∷ indexes_from passes (m + 1) ws) (indexes_from passes (m + 1) ws) →
      (i ∷ rest ≡ indexes_from passes (m + 1) ws → Next passes wires (m + 1) i rest) → Next passes wires m i rest
  next_case w ws m i rest true p at e more =
      let head : i ≡ m = cc in
      let tail : rest ≡ indexes_from passes (m + 1) ws = cc in
      record {
        least = omega (arith, head);
        inside = omega (arith, head, (drop_head wires ws m w w at).0);
        is_one = λ d. ap (λ k. passes (get_or wires k d)) head ∙ ap passes (drop_head wires ws m w d at).1 ∙ p;
        none_between = λ k d le lt. absurd (omega (arith, head, le, lt));
        rest_is = tail ∙ ap (indexes_from passes (m + 1)) (sym (drop_head wires ws m w w at).2) ∙ ap (λ (k : ℕ). indexes_from passes (k + 1) (drop (k + 1) wires)) (sym head);
      }
  next_case w ws m i rest false p at e more =
      let later = more e in
      record {
        least = omega (arith, later.least);
        inside = later.inside;
        is_one = later.is_one;
        none_between = λ k d le lt. elim (eq-or-lt_of_le le) [
          | inl h ↦ ap (λ j. passes (get_or wires j d)) (sym h) ∙ ap passes (drop_head wires ws m w d at).1 ∙ p
          | inr h ↦ later.none_between k d (omega (arith, h)) lt
        ];
        rest_is = later.rest_is;
      }

  next_of : (ws : List Wire) (m i : ℕ) (rest : List ℕ) → drop m wires ≡ ws → i ∷ rest ≡ indexes_from passes m ws → Next passes wires m i rest
  next_of [] m i rest at e = cc
  next_of (w ∷ ws) m i rest at e = next_case w ws m i rest (passes w) refl at e (λ e'. next_of ws (m + 1) i rest (drop_head wires ws m w w at).2 e')

  none_case : (w : Wire) (ws : List Wire) (m : ℕ) (b : Bool) → passes w ≡ b → drop m wires ≡ w ∷ ws →
      [] ≡ cond b (m ∷ indexes_from passes (m + 1) ws) (indexes_from passes (m + 1) ws) →
      ([] ≡ indexes_from passes (m + 1) ws → (k : ℕ) (d : Wire) → m + 1 ≤ k → k < length wires → passes (get_or wires k d) ≡ false) →
      (k : ℕ) (d : Wire) → m ≤ k → k < length wires → passes (get_or wires k d) ≡ false
  none_case w ws m true p at e more = λ k d le lt. absurd (cc)
  none_case w ws m false p at e more = λ k d le lt. elim (eq-or-lt_of_le le) [
    | inl h ↦ ap (λ j. passes (get_or wires j d)) (sym h) ∙ ap passes (drop_head wires ws m w d at).1 ∙ p
    | inr h ↦ more e k d (omega (arith, h)) lt
  ]

  none_of : (ws : List Wire) (m : ℕ) → drop m wires ≡ ws → [] ≡ indexes_from passes m ws → (k : ℕ) (d : Wire) → m ≤ k → k < length wires → passes (get_or wires k d) ≡ false
  none_of [] m at e = λ k d le lt. absurd (omega (arith, drop_none wires m at, le, lt))
  none_of (w ∷ ws) m at e = none_case w ws m (passes w) refl at e (none_of ws (m + 1) (drop_head wires ws m w w at).2)

-- a walk over links by a list of indexes stands before the one at place j: all links below m were looked at or are not the node's
pub record Reached (passes : Wire → Bool) (links : List Link) (indexes : List ℕ) (j m : ℕ) : Type 0 where
  pub within : m ≤ length links
  pub rest_is : drop j indexes ≡ indexes_from passes m (drop m (wires_in links))

-- and goes on to the link at this index
pub record Stepped (passes : Wire → Bool) (links : List Link) (indexes : List ℕ) (j m i : ℕ) : Type 0 where
  pub least : m ≤ i
  pub inside : i < length links
  pub is_one : (d : Link) → passes (get_or links i d).wire ≡ true
  pub none_between : (k : ℕ) (d : Link) → m ≤ k → k < i → passes (get_or links k d).wire ≡ false
  pub reached : Reached passes links indexes (j + 1) (i + 1)

pub starts : (passes : Wire → Bool) (links : List Link) (indexes : List ℕ) → indexes ≡ indexes_from passes 0 (wires_in links) → Reached passes links indexes 0 0
starts passes links indexes e = record { within = omega arith; rest_is = e }

pub stepped : (passes : Wire → Bool) (links : List Link) (indexes : List ℕ) (j m : ℕ) → Reached passes links indexes j m → j < length indexes → Stepped passes links indexes j m (get_or indexes j 0)
stepped passes links indexes j m r lt =
    let n = next_of passes (wires_in links) (drop m (wires_in links)) m (get_or indexes j 0) (drop (j + 1) indexes) refl (sym (drop_more indexes j 0 lt) ∙ r.rest_is) in
    let inside : get_or indexes j 0 < length links = subst (λ c. get_or indexes j 0 < c) (length-map links (λ (l : Link). l.wire)) n.inside in
    record {
      least = n.least;
      inside = inside;
      is_one = λ d. ap passes (sym (get_or-map (λ (l : Link). l.wire) links (get_or indexes j 0) d)) ∙ n.is_one d.wire;
      none_between = λ k d le less. ap passes (sym (get_or-map (λ (l : Link). l.wire) links k d)) ∙ n.none_between k d.wire le less;
      reached = record { within = omega (arith, inside); rest_is = n.rest_is };
    }

pub ended : (passes : Wire → Bool) (links : List Link) (indexes : List ℕ) (j m : ℕ) → Reached passes links indexes j m → length indexes ≤ j →
    (k : ℕ) (d : Link) → m ≤ k → k < length links → passes (get_or links k d).wire ≡ false
ended passes links indexes j m r le k d low lt =
    ap passes (sym (get_or-map (λ (l : Link). l.wire) links k d))
    ∙ none_of passes (wires_in links) (drop m (wires_in links)) m refl (sym (drop_all indexes j le) ∙ r.rest_is) k d.wire low (subst (λ c. k < c) (sym (length-map links (λ (l : Link). l.wire))) lt)

-- what each step leaves is the same after all of them
steady : {Y : Type 0} (G : ℕ → Y) (m n : ℕ) → m ≤ n → ((k : ℕ) → m ≤ k → k < n → G (k + 1) ≡ G k) → G n ≡ G m
steady G m zero le same = let h : m ≡ 0 = omega arith in ap G (sym h)
steady G m (suc n) le same = elim (eq-or-lt_of_le le) [
  | inl h ↦ ap G (sym h)
  | inr h ↦
      let e : suc n ≡ n + 1 = omega arith in
      ap G e ∙ same n (omega (arith, h)) (omega arith) ∙ steady G m n (omega (arith, h)) (λ k low lt. same k low (omega (arith, lt)))
]

-- links that are let alone
kept_step : {A : Type 0} (f : A → A) (xs : List A) (k : ℕ) → k < length xs → ((d : A) → f (get_or xs k d) ≡ get_or xs k d) →
    map f (take (suc k) xs) ++ drop (suc k) xs ≡ map f (take k xs) ++ drop k xs
kept_step f [] k lt same = absurd (omega arith)
kept_step f (x ∷ xs) zero lt same = ap (λ y. y ∷ xs) (same x)
kept_step f (x ∷ xs) (suc k) lt same = ap (λ ys. f x ∷ ys) (kept_step f xs k (omega arith) same)

pub kept_on : {A : Type 0} (f : A → A) (xs : List A) (m n : ℕ) → m ≤ n → n ≤ length xs → ((k : ℕ) (d : A) → m ≤ k → k < n → f (get_or xs k d) ≡ get_or xs k d) →
    map f (take n xs) ++ drop n xs ≡ map f (take m xs) ++ drop m xs
kept_on f xs m n le in' same = steady (λ k. map f (take k xs) ++ drop k xs) m n le (λ k low lt. rw add-one (kept_step f xs k (omega (arith, lt, in')) (λ d. same k d low lt)))

-- a function of the first elements, to which these add nothing
some_of : {A : Type 0} (xs : List A) (k : ℕ) → k < length xs → A
some_of [] k lt = absurd (omega arith)
some_of (x ∷ xs) k lt = x

pub same_on : {A Y : Type 0} (F : List A → Y) (xs : List A) (m n : ℕ) → m ≤ n → n ≤ length xs →
    ((k : ℕ) (d : A) → m ≤ k → k < n → F (take (k + 1) xs) ≡ F (take k xs)) → F (take n xs) ≡ F (take m xs)
same_on F xs m n le in' same = steady (λ k. F (take k xs)) m n le (λ k low lt. same k (some_of xs k (omega (arith, lt, in'))) low lt)

-- the end of a walk
pub take_whole : {A : Type 0} (xs : List A) → take (length xs) xs ≡ xs
take_whole [] = refl
take_whole (x ∷ xs) = ap (λ ys. x ∷ ys) (take_whole xs)

pub mapped_whole : {A : Type 0} (f : A → A) (xs : List A) → map f (take (length xs) xs) ++ drop (length xs) xs ≡ map f xs
mapped_whole f [] = refl
mapped_whole f (x ∷ xs) = ap (λ ys. f x ∷ ys) (mapped_whole f xs)
