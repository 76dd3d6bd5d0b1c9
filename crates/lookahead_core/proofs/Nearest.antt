-- The bound and the first arrival over links that were looked at up to some index, of which those of one node were read.
use Rattle.std.proofs.Common.{◌≡◌, ℕ, ◌+◌, ◌<◌, ◌≤◌, Bool, true, false, cond, ◌==◌, min, List, [], ◌∷◌, ◌++◌, take, length, get_or, IfSome, Option, Some, None, All, inl, inr, refl, sym, ◌∙◌, ap, subst, arith}
use Rattle.std.proofs.Math.Nat.{eq-or-lt_of_le}
use Rattle.std.proofs.lemmas.Bool.{cases_lt}
use Rattle.std.proofs.lemmas.Bool.Decides.{eqb_tells}
use Rattle.std.proofs.lemmas.List.{map_more, take_more}
use Rattle.std.proofs.lemmas.List.Elements.{All-nil, All-weaker}
use Rattle.flight_line.specs.InFlight.{InFlight, first_arrival, next_arrival}
use Rattle.lookahead_core.specs.Bound.{bound_of, least_with}
use Rattle.lookahead_core.specs.Links.{NoneEarlier, wires_in}
use Rattle.lookahead_core.specs.Motion.{Bytes}
use Rattle.lookahead_core.specs.Skips.{first_due, lesser}
use Rattle.lookahead_core.specs.declared.link.Link.{Link}
use Rattle.lookahead_core.specs.declared.wire.Wire.{Wire}
use Rattle.lookahead_core.proofs.Booleans.{true_false}
use Rattle.lookahead_core.proofs.ListLemmas.{any_default}
use Rattle.lookahead_core.proofs.Skipping.{of_least}
use Rattle.lookahead_core.proofs.Walks.{Reached, stepped, ended, same_on, take_whole}

-- one wire more
least_swap : (a b : ℕ) (o : Option ℕ) → least_with a (least_with b o) ≡ least_with b (least_with a o)
least_swap a b None = let h : min a b ≡ min b a = omega arith in ap Some h
least_swap a b (Some c) = let h : min a (min b c) ≡ min b (min a c) = omega arith in ap Some h

swap_case : (p q : Bool) (a b : ℕ) (o : Option ℕ) →
    cond q (least_with b (cond p (least_with a o) o)) (cond p (least_with a o) o) ≡ cond p (least_with a (cond q (least_with b o) o)) (cond q (least_with b o) o)
swap_case true true a b o = least_swap b a o
swap_case true false a b o = refl
swap_case false true a b o = refl
swap_case false false a b o = refl

bound_end : (count : ℕ → ℕ) (g : ℕ) (ws : List Wire) (w : Wire) →
    bound_of count g (ws ++ w ∷ []) ≡ cond (w.to == g) (least_with (count w.from + w.delay) (bound_of count g ws)) (bound_of count g ws)
bound_end count g [] w = refl
bound_end count g (v ∷ ws) w =
    ap (λ o. cond (v.to == g) (least_with (count v.from + v.delay) o) o) (bound_end count g ws w)
    ∙ swap_case (w.to == g) (v.to == g) (count w.from + w.delay) (count v.from + v.delay) (bound_of count g ws)

bound_more : (count : ℕ → ℕ) (g : ℕ) (links : List Link) (k : ℕ) (d : Link) → k < length links → (b : Bool) → ((get_or links k d).wire.to == g) ≡ b →
    bound_of count g (wires_in (take (k + 1) links))
    ≡ cond b (least_with (count (get_or links k d).wire.from + (get_or links k d).wire.delay) (bound_of count g (wires_in (take k links)))) (bound_of count g (wires_in (take k links)))
bound_more count g links k d lt b e =
    ap (bound_of count g) (map_more (λ (l : Link). l.wire) links k d lt) ∙ bound_end count g (wires_in (take k links)) (get_or links k d).wire ∙ rw e refl

-- a walk over the links that lead to node g, before the one at place j
pub record Bounds (count : ℕ → ℕ) (g j : ℕ) (into : List ℕ) (links : List Link) (bound : Option ℕ) : Type 0 where
  pub m : ℕ
  pub reached : Reached (λ w. w.to == g) links into j m
  pub is : bound ≡ bound_of count g (wires_in (take m links))

pub bounds_more : (count : ℕ → ℕ) (g j : ℕ) (into : List ℕ) (links : List Link) (bound next : Option ℕ) (link : Link) → Bounds count g j into links bound → j < length into →
    link ≡ get_or links (get_or into j 0) link → next ≡ least_with (count link.wire.from + link.wire.delay) bound → Bounds count g (j + 1) into links next
bounds_more count g j into links bound next link p lt here e =
    let i = get_or into j 0 in
    let s = stepped (λ w. w.to == g) links into j p.m p.reached lt in
    let was : bound_of count g (wires_in (take i links)) ≡ bound_of count g (wires_in (take p.m links)) =
    same_on (λ ls. bound_of count g (wires_in ls)) links p.m i s.least (omega (arith, s.inside)) (λ k d low less.
    bound_more count g links k d (omega (arith, less, s.inside)) false (s.none_between k d low less)) in
    record {
      m = i + 1;
      reached = s.reached;
      is = e ∙ ap (least_with (count link.wire.from + link.wire.delay)) (p.is ∙ sym was)
          ∙ ap (λ (l : Link). least_with (count l.wire.from + l.wire.delay) (bound_of count g (wires_in (take i links)))) here
          ∙ sym (bound_more count g links i link s.inside true (s.is_one link));
    }

pub bounds_end : (count : ℕ → ℕ) (g j : ℕ) (into : List ℕ) (links : List Link) (bound : Option ℕ) → Bounds count g j into links bound → length into ≤ j → bound ≡ bound_of count g (wires_in links)
bounds_end count g j into links bound p le =
    p.is ∙ sym (same_on (λ ls. bound_of count g (wires_in ls)) links p.m (length links) p.reached.within (omega arith)
    (λ k d low lt. bound_more count g links k d lt false (ended (λ w. w.to == g) links into j p.m p.reached le k d low lt)))
    ∙ ap (λ ls. bound_of count g (wires_in ls)) (take_whole links)

-- one link more
lesser_none : (o : Option ℕ) → lesser o None ≡ o
lesser_none None = refl
lesser_none (Some a) = refl

lesser_regroup : (o p q : Option ℕ) → lesser o (lesser p q) ≡ lesser (lesser o p) q
lesser_regroup None p q = refl
lesser_regroup (Some a) None q = refl
lesser_regroup (Some a) (Some b) None = refl
lesser_regroup (Some a) (Some b) (Some c) = let h : min a (min b c) ≡ min (min a b) c = omega arith in ap Some h

regroup_case : (b : Bool) (o p q : Option ℕ) → cond b (lesser o (lesser p q)) (lesser p q) ≡ lesser (cond b (lesser o p) p) q
regroup_case true o p q = lesser_regroup o p q
regroup_case false o p q = refl

first_case : (b : Bool) (o : Option ℕ) → cond b (lesser o None) None ≡ cond b o None
first_case true o = lesser_none o
first_case false o = refl

due_end : (g : ℕ) (links : List Link) (link : Link) → first_due g (links ++ link ∷ []) ≡ lesser (first_due g links) (cond (link.wire.to == g) (next_arrival link.line) None)
due_end g [] link = first_case (link.wire.to == g) (next_arrival link.line)
due_end g (l ∷ links) link =
    ap (λ o. cond (l.wire.to == g) (lesser (next_arrival l.line) o) o) (due_end g links link)
    ∙ regroup_case (l.wire.to == g) (next_arrival l.line) (first_due g links) (cond (link.wire.to == g) (next_arrival link.line) None)

due_more : (g : ℕ) (links : List Link) (k : ℕ) (d : Link) → k < length links →
    first_due g (take (k + 1) links) ≡ lesser (first_due g (take k links)) (cond ((get_or links k d).wire.to == g) (next_arrival (get_or links k d).line) None)
due_more g links k d lt = ap (first_due g) (take_more links k d lt) ∙ due_end g (take k links) (get_or links k d)

-- a walk over the links that lead to node g, before the one at place j
pub record Dues (g j : ℕ) (into : List ℕ) (links : List Link) (due : Option ℕ) : Type 0 where
  pub m : ℕ
  pub reached : Reached (λ w. w.to == g) links into j m
  pub first : due ≡ first_due g (take m links)
  pub later : (n : ℕ) → ((b : ℕ) → due ≡ Some b → n ≤ b) → (k : ℕ) (d : Link) → k < m → k < length links → (get_or links k d).wire.to ≡ g →
      All (λ f. n ≤ f.0 + (get_or links k d).line.delay) (get_or links k d).line.frames

pub none_leads : (to g : ℕ) → (to == g) ≡ false → to ≡ g → ⊥
none_leads to g e h = elim (eqb_tells to g) [ inl t ↦ true_false t.0 e | inr t ↦ t.1 h ]

due_alone : (g : ℕ) (links : List Link) (k : ℕ) (d : Link) → k < length links → ((get_or links k d).wire.to == g) ≡ false → first_due g (take (k + 1) links) ≡ first_due g (take k links)
due_alone g links k d lt e = due_more g links k d lt ∙ rw e (lesser_none (first_due g (take k links)))

due_one : (g : ℕ) (links : List Link) (k : ℕ) (d : Link) → k < length links → ((get_or links k d).wire.to == g) ≡ true →
    first_due g (take (k + 1) links) ≡ lesser (first_due g (take k links)) (next_arrival (get_or links k d).line)
due_one g links k d lt e = due_more g links k d lt ∙ ap (λ b. lesser (first_due g (take k links)) (cond b (next_arrival (get_or links k d).line) None)) e

of_lesser : (n : ℕ) (o p : Option ℕ) → ((b : ℕ) → lesser o p ≡ Some b → n ≤ b) → ((b : ℕ) → o ≡ Some b → n ≤ b) × ((b : ℕ) → p ≡ Some b → n ≤ b)
of_lesser n None p h = (λ b e. absurd (cc), h)
of_lesser n (Some a) p h = let both = of_least n a p h in (λ b e. let k : a ≡ b = cc in omega (arith, both.0, k), both.1)

no_frames : (d : ℕ) (fs : List (ℕ × Bytes)) → None ≡ first_arrival d fs → fs ≡ []
no_frames d [] e = refl
no_frames d (f ∷ fs) e = cc

-- no frame of a line arrives before a tick that is no later than its first arrival
none_before : (n : ℕ) (l : InFlight) (o : Option ℕ) → o ≡ next_arrival l → IfSome o (λ a. All (λ f. a ≤ f.0 + l.delay) l.frames) → ((b : ℕ) → o ≡ Some b → n ≤ b)
    → All (λ (f : ℕ × Bytes). n ≤ f.0 + l.delay) l.frames
none_before n l None is later h = let none : l.frames ≡ [] = no_frames l.delay l.frames is in rw none (All-nil _)
none_before n l (Some a) is later h =
    All-weaker (λ (f : ℕ × Bytes). a ≤ f.0 + l.delay) (λ (f : ℕ × Bytes). n ≤ f.0 + l.delay) (λ f le. omega (arith, le, h a refl)) l.frames later

pub dues_more : (g j : ℕ) (into : List ℕ) (links : List Link) (due o next : Option ℕ) (link : Link) → Dues g j into links due → j < length into →
    link ≡ get_or links (get_or into j 0) link → next ≡ lesser due o → o ≡ next_arrival link.line → IfSome o (λ a. All (λ f. a ≤ f.0 + link.line.delay) link.line.frames) →
    Dues g (j + 1) into links next
dues_more g j into links due o next link p lt here e is late =
    let i : ℕ = get_or into j 0 in
    let s = stepped (λ w. w.to == g) links into j p.m p.reached lt in
    let was : first_due g (take i links) ≡ first_due g (take p.m links) =
    same_on (first_due g) links p.m i s.least (omega (arith, s.inside)) (λ k d low less. due_alone g links k d (omega (arith, less, s.inside)) (s.none_between k d low less)) in
    record {
      m = i + 1;
      reached = s.reached;
      first = e ∙ ap (λ q. lesser q o) (p.first ∙ sym was) ∙ ap (lesser (first_due g (take i links))) is
          ∙ ap (λ (l : Link). lesser (first_due g (take i links)) (next_arrival l.line)) here
          ∙ sym (due_one g links i link s.inside (s.is_one link));
      later = λ n h k d less in' to.
          let both = of_lesser n due o (λ b q. h b (e ∙ q)) in
          elim (cases_lt k p.m) [
            | inl below ↦ p.later n both.0 k d below in' to
            | inr above ↦ elim (eq-or-lt_of_le (le_of_more k i less)) [
              | inl at ↦
                  let same : get_or links k d ≡ link = any_default links k d link in' ∙ ap (λ q. get_or links q link) at ∙ sym here in
                  subst (λ (l : Link). All (λ f. n ≤ f.0 + l.line.delay) l.line.frames) (sym same) (none_before n link.line o is late both.1)
              | inr under ↦ absurd (none_leads (get_or links k d).wire.to g (s.none_between k d above under) to)
            ]
          ];
    }
  where
    le_of_more : (k i : ℕ) → k < i + 1 → k ≤ i
    le_of_more k i less = omega arith

pub dues_end : (g j : ℕ) (into : List ℕ) (links : List Link) (due : Option ℕ) → Dues g j into links due → length into ≤ j → (due ≡ first_due g links) ×
    ((n : ℕ) → ((b : ℕ) → due ≡ Some b → n ≤ b) → NoneEarlier g n links)
dues_end g j into links due p le =
    let none = ended (λ w. w.to == g) links into j p.m p.reached le in (
      p.first ∙ sym (same_on (first_due g) links p.m (length links) p.reached.within (omega arith) (λ k d low lt. due_alone g links k d lt (none k d low lt))) ∙ ap (first_due g) (take_whole links),
      λ n h k d lt to. elim (cases_lt k p.m) [
        | inl below ↦ p.later n h k d below lt to
        | inr above ↦ absurd (none_leads (get_or links k d).wire.to g (none k d above lt) to)
      ],
    )
