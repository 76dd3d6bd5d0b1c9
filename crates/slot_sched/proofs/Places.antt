-- Places in order: the first one of a node that may go is the best, and what a set holds after a change.
use Rattle.std.proofs.Common.{◌≡◌, ◌≢◌, ℕ, ◌+◌, ◌<◌, ◌≤◌, Bool, true, false, ◌==◌, ◌&&◌, cond, List, [], ◌∷◌, Some, None, Less, inl, inr, refl, sym, ◌∙◌, ap, subst, arith, slice_index}
use Rattle.std.specs.Prelude.{slice_get, slice_set, All}
use Rattle.std.specs.List.{AllByRecursion, list_any}
use Rattle.std.specs.List.Sorted.{IsStrictlySortedBy}
use Rattle.std.specs.BTreeMap.{is_at}
use Rattle.std.specs.BTreeSet.{BTreeSet, contains}
use Rattle.std.proofs.lemmas.Bool.{or_cases}
use Rattle.std.proofs.lemmas.Bool.Decides.{nat_tests, eqb_tells}
use Rattle.std.proofs.lemmas.List.Elements.{All-tail, All-weaker}
use Rattle.std.proofs.lemmas.Map.Keys.{sorted_head, sorted_tail}
use Rattle.lookahead_core.specs.CoreWords.{ticks_done, goes}
use Rattle.lookahead_core.specs.declared.node.Node.{Ghosts}
use Rattle.lookahead_core.specs.declared.node_core.Core.{Core}
use Rattle.lookahead_core.proofs.Booleans.{true_false}
use Rattle.lookahead_core.proofs.Seats.{get_set_same, get_set_other}
use Rattle.slot_sched.specs.Queues.{Place, place_cmp, is_placed, AreQueued, Moves}
use Rattle.slot_sched.specs.Turns.{IsBestBelow}

-- a query finds the place with the same numbers
at_place : (a b c d : ℕ) → is_at (place_cmp (a, b)) (c, d) ≡ (a == c && b == d)
at_place a b c d = grind (arith, nat_tests)

same_place : (a b c d : ℕ) → is_at (place_cmp (a, b)) (c, d) ≡ true → (a ≡ c) × (b ≡ d)
same_place a b c d e = grind (arith, nat_tests)

less_place : (a b c d : ℕ) → place_cmp (a, b) (c, d) ≡ Less → a ≤ c
less_place a b c d e = grind (arith, nat_tests)

-- what a test of a place says
placed_parts : (done : ℕ → ℕ) (homes : List ℕ) (n slot count g : ℕ) → is_placed done homes n slot count g ≡ true → (g < n) × (slice_index homes g ≡ slot) × (done g ≡ count)
placed_parts done homes n slot count g e = grind (arith, nat_tests)

placed_at : (done : ℕ → ℕ) (homes : List ℕ) (n slot g : ℕ) → g < n → slice_index homes g ≡ slot → is_placed done homes n slot (done g) g ≡ true
placed_at done homes n slot g lt home = grind (arith, nat_tests)

-- a place that is found among those after another has no lesser count
found_after : (a : Place) (c h : ℕ) (rest : List Place) → AllByRecursion (λ y. place_cmp a y ≡ Less) rest → list_any (is_at (place_cmp (c, h))) rest ≡ true → a.0 ≤ c
found_after a c h [] above e = absurd (cc e)
found_after a c h (k ∷ rest) above e = elim (or_cases (is_at (place_cmp (c, h)) k) (list_any (is_at (place_cmp (c, h))) rest) e) [
  | inl here ↦ let same = same_place c h k.0 k.1 here in let le : a.0 ≤ k.0 = less_place a.0 a.1 k.0 k.1 above.0 in omega (arith, same.0, le)
  | inr later ↦ found_after a c h rest above.1 later
]

module _ {N : Type 0} {G : Ghosts N} (core : Core N G) (homes : List ℕ) (slot n : ℕ) where
  -- what is left of the places of a slot's nodes: in order, and with those of all that may go
  pub record AreLeft (rest : List Place) : Type 0 where
    pub sorted : IsStrictlySortedBy place_cmp rest
    pub placed : All (λ k. is_placed (ticks_done core) homes n slot k.0 k.1 ≡ true) rest
    pub goers : (g : ℕ) → g < n → slice_index homes g ≡ slot → goes core g ≡ true → list_any (is_at (place_cmp (ticks_done core g, g))) rest ≡ true

  pub all_left : (queues : List (BTreeSet Place)) (queue : BTreeSet Place) → AreQueued (ticks_done core) homes n queues → slice_get queues slot ≡ Some queue →
      IsStrictlySortedBy place_cmp queue.keys → All (λ k. contains place_cmp queue k ≡ true) queue.keys → AreLeft queue.keys
  all_left queues queue queued is sorted found = record {
    sorted = sorted;
    placed = All-weaker (λ k. contains place_cmp queue k ≡ true) (λ k. is_placed (ticks_done core) homes n slot k.0 k.1 ≡ true) (λ k has. sym (queued slot queue is k.0 k.1) ∙ has) queue.keys found;
    goers = λ g lt home may. queued slot queue is (ticks_done core g) g ∙ placed_at (ticks_done core) homes n slot g lt home;
  }

  head_placed : (k : Place) (rest : List Place) → AreLeft (k ∷ rest) → (k.1 < n) × (slice_index homes k.1 ≡ slot) × (ticks_done core k.1 ≡ k.0)
  head_placed k rest left = placed_parts (ticks_done core) homes n slot k.0 k.1 (left.placed 0 k (omega arith))

  pub head_in : (k : Place) (rest : List Place) → AreLeft (k ∷ rest) → k.1 < n
  head_in k rest left = (head_placed k rest left).0

  -- the first, if it may go
  pub first_best : (k : Place) (rest : List Place) → AreLeft (k ∷ rest) → goes core k.1 ≡ true → IsBestBelow core homes slot n (Some k.1)
  first_best k rest left may = record {
    none = λ e. cc;
    within = λ b e. let at : k.1 ≡ b = cc in subst (λ i. i < n) at place.0;
    home = λ b e. let at : k.1 ≡ b = cc in subst (λ i. slice_index homes i ≡ slot) at place.1;
    may = λ b e. let at : k.1 ≡ b = cc in subst (λ i. goes core i ≡ true) at may;
    least = λ b e g lt home goer. let at : k.1 ≡ b = cc in subst (λ i. ticks_done core i ≤ ticks_done core g) at (least g lt home goer);
  }
    where
      place : (k.1 < n) × (slice_index homes k.1 ≡ slot) × (ticks_done core k.1 ≡ k.0)
      place = head_placed k rest left

      least : (g : ℕ) → g < n → slice_index homes g ≡ slot → goes core g ≡ true → ticks_done core k.1 ≤ ticks_done core g
      least g lt home goer = elim (or_cases (is_at (place_cmp (ticks_done core g, g)) k) (list_any (is_at (place_cmp (ticks_done core g, g))) rest) (left.goers g lt home goer)) [
        | inl here ↦ let same = same_place (ticks_done core g) g k.0 k.1 here in omega (arith, same.0, place.2)
        | inr later ↦ let le : k.0 ≤ ticks_done core g = found_after k (ticks_done core g) g rest (sorted_head place_cmp k rest left.sorted) later in omega (arith, le, place.2)
      ]

  -- the others, if it may not
  pub passed : (k : Place) (rest : List Place) → AreLeft (k ∷ rest) → goes core k.1 ≡ false → AreLeft rest
  passed k rest left not = record {
    sorted = sorted_tail place_cmp k rest left.sorted;
    placed = All-tail (λ k. is_placed (ticks_done core) homes n slot k.0 k.1 ≡ true) k rest left.placed;
    goers = λ g lt home goer. elim (or_cases (is_at (place_cmp (ticks_done core g, g)) k) (list_any (is_at (place_cmp (ticks_done core g, g))) rest) (left.goers g lt home goer)) [
      | inl here ↦ let same = same_place (ticks_done core g) g k.0 k.1 here in true_false goer (subst (λ i. goes core i ≡ false) (sym same.1) not)
      | inr later ↦ later
    ];
  }

  -- none is left
  pub none_best : (rest : List Place) → rest ≡ [] → AreLeft rest → IsBestBelow core homes slot n None
  none_best rest e left = record {
    none = λ _ g lt home. stuck g lt home (goes core g) refl;
    within = λ b e. cc;
    home = λ b e. cc;
    may = λ b e. cc;
    least = λ b e. cc;
  }
    where
      stuck : (g : ℕ) → g < n → slice_index homes g ≡ slot → (b : Bool) → goes core g ≡ b → goes core g ≡ false
      stuck g lt home true may = absurd (cc (ap (list_any (is_at (place_cmp (ticks_done core g, g)))) e, left.goers g lt home may))
      stuck g lt home false may = may

-- a set got a place
abbrev pub Gets : Place → BTreeSet Place → BTreeSet Place → Type 0
Gets place old new = (k : Place) → contains place_cmp new k ≡ cond (is_at (place_cmp place) k) true (contains place_cmp old k)

-- elsewhere no place changes
placed_elsewhere : (before now : ℕ → ℕ) (homes : List ℕ) (n s slot who count g : ℕ) → s ≢ slot → slice_index homes who ≡ slot → ((h : ℕ) → h ≢ who → now h ≡ before h) →
    is_placed before homes n s count g ≡ is_placed now homes n s count g
placed_elsewhere before now homes n s slot who count g ne home same = elim (eqb_tells g who) [
  | inl e ↦ let at : slice_index homes g ≡ slot = ap (slice_index homes) e.1 ∙ home in grind (arith, nat_tests)
  | inr e ↦ let at : now g ≡ before g = same g e.1 in rw at refl
]

placed_here : (before now : ℕ → ℕ) (homes : List ℕ) (n slot who was done count g : ℕ) → who < n → slice_index homes who ≡ slot → ((h : ℕ) → h ≢ who → now h ≡ before h) → was ≡ before who → done ≡ now who →
    cond (done == count && who == g) true (cond (was == count && who == g) false (is_placed before homes n slot count g)) ≡ is_placed now homes n slot count g
placed_here before now homes n slot who was done count g lt home same o p = elim (eqb_tells g who) [
  | inl e ↦
      let at : slice_index homes g ≡ slot = ap (slice_index homes) e.1 ∙ home in
      let o' : before g ≡ was = ap before e.1 ∙ sym o in
      let p' : now g ≡ done = ap now e.1 ∙ sym p in
      grind (arith, nat_tests)
  | inr e ↦ let at : now g ≡ before g = same g e.1 in grind (arith, nat_tests)
]

-- a node is moved from its old count to its new one
pub requeued : (before now : ℕ → ℕ) (homes : List ℕ) (n slot who was done : ℕ) (queues : List (BTreeSet Place)) (old new : BTreeSet Place) → who < n → slice_index homes who ≡ slot →
    ((g : ℕ) → g ≢ who → now g ≡ before g) → was ≡ before who → done ≡ now who → AreQueued before homes n queues → slice_get queues slot ≡ Some old → Moves (was, who) (done, who) old new →
    AreQueued now homes n (slice_set queues slot new)
requeued before now homes n slot who was done queues old new lt home same o p queued is moves = λ s queue at count g. elim (eqb_tells s slot) [
  | inl e ↦
      let this : queue ≡ new = get_set_same queues slot new queue (subst (λ i. slice_get (slice_set queues slot new) i ≡ Some queue) e.1 at) in
      ap (λ q. contains place_cmp q (count, g)) this ∙ moves (count, g)
      ∙ rw (at_place done who count g, at_place was who count g, queued slot old is count g, e.1) (placed_here before now homes n slot who was done count g lt home same o p)
  | inr e ↦ queued s queue (get_set_other queues slot s new queue e.1 at) count g ∙ placed_elsewhere before now homes n s slot who count g e.1 home same
]

-- a node more is queued
pub queued_more : (done : ℕ → ℕ) (homes : List ℕ) (who slot count : ℕ) (queues : List (BTreeSet Place)) (old new : BTreeSet Place) → slice_index homes who ≡ slot → count ≡ done who → AreQueued done homes who queues →
    slice_get queues slot ≡ Some old → Gets (count, who) old new → AreQueued done homes (who + 1) (slice_set queues slot new)
queued_more done homes who slot count queues old new home is queued at gets = λ s queue here k g. elim (eqb_tells s slot) [
  | inl e ↦
      let this : queue ≡ new = get_set_same queues slot new queue (subst (λ i. slice_get (slice_set queues slot new) i ≡ Some queue) e.1 here) in
      ap (λ q. contains place_cmp q (k, g)) this ∙ gets (k, g) ∙ rw (at_place count who k g, queued slot old at k g, is, e.1) (more k g)
  | inr e ↦ queued s queue (get_set_other queues slot s new queue e.1 here) k g ∙ other s k g e.1
]
  where
    more : (k g : ℕ) → cond (done who == k && who == g) true (is_placed done homes who slot k g) ≡ is_placed done homes (who + 1) slot k g
    more k g = elim (eqb_tells g who) [
      | inl e ↦ let h : slice_index homes g ≡ slot = ap (slice_index homes) e.1 ∙ home in let p : done g ≡ done who = ap done e.1 in grind (arith, nat_tests)
      | inr e ↦ let ne = e.1 in grind (arith, nat_tests)
    ]

    other : (s k g : ℕ) → s ≢ slot → is_placed done homes who s k g ≡ is_placed done homes (who + 1) s k g
    other s k g ne = elim (eqb_tells g who) [
      | inl e ↦ let h : slice_index homes g ≡ slot = ap (slice_index homes) e.1 ∙ home in grind (arith, nat_tests)
      | inr e ↦ let ne' = e.1 in grind (arith, nat_tests)
    ]
