-- What the entries of a legal journal tell of a guest is its trace.
use Rattle.std.proofs.Common.{◌≡◌, ◌∙◌, ℕ, ◌+◌, ◌<◌, ◌≤◌, ◌/◌, List, [], ◌∷◌, ◌++◌, Bool, true, false, cond, refl, sym, ap, subst, arith, append_assoc, inl, inr}
use Rattle.std.specs.Prelude.{◌==◌, ◌||◌}
use Rattle.std.specs.List.{fold, list_any}
use Rattle.std.proofs.lemmas.Bool.{cases_eq, cases_lt, cond-true, cond-false, eq-eqb, ne_eqb}
use Rattle.std.proofs.lemmas.List.{append-nil}
use Rattle.std.proofs.lemmas.List.Sums.{sum_by-cons}
use Rattle.trace_rec.specs.declared.rec.Rec.{Rec}
use Rattle.host_journal.specs.Entries.{Entry, Host, Slot, Ran, End}
use Rattle.host_journal.specs.Printed.{entry_recs, recs_of, entry_units, units_of, count_after, count_of, is_past, up_to_tick}
use Rattle.host_journal.specs.declared.quantum.Quantum.{Quantum}
use Rattle.slot_sched.specs.Legal.{Rules, At, MayCome, IsFull, IsLegal, IsLegalFrom, IsComplete, IsQuantum, after, after_all, after_quantum, count_at, start}
use Rattle.slot_sched.specs.Told.{Tells}

-- a choice by whether two numbers are the same
if_same : {A : Type 0} (a b : ℕ) (x y : A) → a ≡ b → cond (a == b) x y ≡ x
if_same a b x y e = cond-true (a == b) x y (eq-eqb a b e)

if_not : {A : Type 0} (a b : ℕ) (x y : A) → (a ≡ b → ⊥) → cond (a == b) x y ≡ y
if_not a b x y differ = cond-false (a == b) x y (ne_eqb a b differ)

-- what a quantum adds to the units of a guest, by whether it is the guest's
units_mine : (at : At) (q : Quantum) (g : ℕ) → q.guest ≡ g → (after_quantum at q.guest q.units).units g ≡ at.units g + q.units
units_mine at q g same = if_same g q.guest (at.units g + q.units) (at.units g) (sym same)

units_other : (at : At) (q : Quantum) (g : ℕ) → (q.guest ≡ g → ⊥) → (after_quantum at q.guest q.units).units g ≡ at.units g
units_other at q g other = if_not g q.guest (at.units g + q.units) (at.units g) (λ e. other (sym e))

-- a quantum's records come behind those of the ticks before it
quantum_tells : (r : Rules) (at : At) (q : Quantum) (recs : List Rec) (g : ℕ) → IsQuantum r at q recs
    → r.trace g (count_at r at g) ++ entry_recs g (Ran q recs) ≡ r.trace g (count_at r (after_quantum at q.guest q.units) g)
quantum_tells r at q recs g legal = elim (cases_eq q.guest g) [
  | inl same ↦
      ap (λ (x : List Rec). r.trace g (count_at r at g) ++ x) (if_same q.guest g recs [] same)
      ∙ subst (λ (i : ℕ). r.trace i (count_at r at i) ++ recs ≡ r.trace i (r.ticks_by i (at.units i + q.units))) same (legal.told ∙ ap (r.trace q.guest) legal.counted)
      ∙ ap (λ (u : ℕ). r.trace g (r.ticks_by g u)) (sym (units_mine at q g same))
  | inr other ↦
      ap (λ (x : List Rec). r.trace g (count_at r at g) ++ x) (if_not q.guest g recs [] other)
      ∙ append-nil (r.trace g (count_at r at g))
      ∙ ap (λ (u : ℕ). r.trace g (r.ticks_by g u)) (sym (units_other at q g other))
]

recs_told : (r : Rules) (es : List Entry) (at : At) (g : ℕ) → IsLegalFrom r at es → r.trace g (count_at r at g) ++ recs_of g es ≡ r.trace g (count_at r (after_all at es) g)
recs_told r [] at g legal = append-nil (r.trace g (count_at r at g))
recs_told r (Host t ∷ es) at g legal = recs_told r es (after at (Host t)) g legal.1
recs_told r (Slot s ∷ es) at g legal = recs_told r es (after at (Slot s)) g legal.1
recs_told r (End ∷ es) at g legal = recs_told r es (after at End) g legal.1
recs_told r (Ran q recs ∷ es) at g legal =
    sym (append_assoc (r.trace g (count_at r at g)) (entry_recs g (Ran q recs)) (recs_of g es))
    ∙ ap (λ (x : List Rec). x ++ recs_of g es) (quantum_tells r at q recs g legal.0.1)
    ∙ recs_told r es (after_quantum at q.guest q.units) g legal.1

-- the units printed are those that the journal counts
quantum_units : (at : At) (q : Quantum) (recs : List Rec) (g : ℕ) → (after_quantum at q.guest q.units).units g ≡ at.units g + entry_units g (Ran q recs)
quantum_units at q recs g = elim (cases_eq q.guest g) [
  | inl same ↦ units_mine at q g same ∙ ap (λ (u : ℕ). at.units g + u) (sym (if_same q.guest g q.units 0 same))
  | inr other ↦ units_other at q g other ∙ omega (arith, if_not q.guest g q.units 0 other)
]

units_told : (es : List Entry) (at : At) (g : ℕ) → (after_all at es).units g ≡ at.units g + units_of g es
units_told [] at g = omega arith
units_told (Host t ∷ es) at g = omega (arith, units_told es (after at (Host t)) g, sum_by-cons (entry_units g) (Host t) es)
units_told (Slot s ∷ es) at g = omega (arith, units_told es (after at (Slot s)) g, sum_by-cons (entry_units g) (Slot s) es)
units_told (End ∷ es) at g = omega (arith, units_told es (after at End) g, sum_by-cons (entry_units g) End es)
units_told (Ran q recs ∷ es) at g =
    omega (arith, units_told es (after_quantum at q.guest q.units) g, quantum_units at q recs g, sum_by-cons (entry_units g) (Ran q recs) es)

-- the count printed last is what they pay for
quantum_counts : (r : Rules) (at : At) (q : Quantum) (recs : List Rec) (g n : ℕ) → IsQuantum r at q recs → n ≡ count_at r at g
    → count_after g n (Ran q recs) ≡ count_at r (after_quantum at q.guest q.units) g
quantum_counts r at q recs g n legal is = elim (cases_eq q.guest g) [
  | inl same ↦
      if_same q.guest g q.done n same
      ∙ subst (λ (i : ℕ). q.done ≡ r.ticks_by i (at.units i + q.units)) same legal.counted
      ∙ ap (r.ticks_by g) (sym (units_mine at q g same))
  | inr other ↦ if_not q.guest g q.done n other ∙ is ∙ ap (r.ticks_by g) (sym (units_other at q g other))
]

pub counts_told : (r : Rules) (es : List Entry) (at : At) (g n : ℕ) → IsLegalFrom r at es → n ≡ count_at r at g → fold (count_after g) n es ≡ count_at r (after_all at es) g
counts_told r [] at g n legal is = is
counts_told r (Host t ∷ es) at g n legal is = counts_told r es (after at (Host t)) g n legal.1 is
counts_told r (Slot s ∷ es) at g n legal is = counts_told r es (after at (Slot s)) g n legal.1 is
counts_told r (End ∷ es) at g n legal is = counts_told r es (after at End) g n legal.1 is
counts_told r (Ran q recs ∷ es) at g n legal is =
    counts_told r es (after_quantum at q.guest q.units) g (count_after g n (Ran q recs)) legal.1 (quantum_counts r at q recs g n legal.0.1 is)

-- no unit pays for a tick, and no tick has no record
pub record StartsEmpty (r : Rules) (g : ℕ) : Type 0 where
  pub ticks : 0 ≡ r.ticks_by g 0
  pub trace : [] ≡ r.trace g 0

pub tells : (r : Rules) (es : List Entry) (g : ℕ) → StartsEmpty r g → IsLegal r es → Tells r es g
tells r es g empty legal =
    let counted = counts_told r es start g 0 legal empty.ticks in
    let opening : [] ≡ r.trace g (count_at r start g) = empty.trace ∙ ap (r.trace g) empty.ticks in
    let units : (after_all start es).units g ≡ units_of g es = units_told es start g ∙ omega arith in
    record {
      records = ap (λ (x : List Rec). x ++ recs_of g es) opening ∙ recs_told r es start g legal ∙ ap (r.trace g) (sym counted);
      clock = counted ∙ ap (r.ticks_by g) units;
    }

-- a host tick is left where each guest has done its share
pub share_done : (r : Rules) (at : At) (g : ℕ) → g < r.guests → (1 ≤ at.host → IsFull r at) → at.host / r.factor ≤ count_at r at g
share_done r at g lt full = elim (cases_lt 0 at.host) [
  | inl some ↦ (full some).kept_up g lt
  | inr none ↦ let zero_ticks : at.host ≡ 0 = omega (arith, none) in subst (λ (t : ℕ). t / r.factor ≤ count_at r at g) (sym zero_ticks) (omega arith)
]

-- from within the host ticks up to t on, where the end of host tick t stands among the entries
share_told : (r : Rules) (es : List Entry) (at : At) (t g : ℕ) → g < r.guests → IsLegalFrom r at es → at.host ≤ t → t ≤ r.host_ticks → list_any (is_past t) es ≡ true
    → t / r.factor ≤ count_at r (after_all at (up_to_tick t es)) g
share_told r [] at t g lt legal early few past = absurd (cc past)
share_told r (Slot s ∷ es) at t g lt legal early few past = share_told r es (after at (Slot s)) t g lt legal.1 early few past
share_told r (Ran q recs ∷ es) at t g lt legal early few past = share_told r es (after at (Ran q recs)) t g lt legal.1 early few past
share_told r (End ∷ es) at t g lt legal early few past =
    let here : at.host ≡ t = omega (arith, legal.0.1, early, few) in subst (λ (k : ℕ). k / r.factor ≤ count_at r at g) here (share_done r at g lt legal.0.2)
share_told r (Host u ∷ es) at t g lt legal early few past = elim (cases_eq u (t + 1)) [
  | inl same ↦
      let here : at.host ≡ t = omega (arith, legal.0.1, same) in
      let next : MayCome r at (Host (at.host + 1)) = subst (λ (k : ℕ). MayCome r at (Host k)) legal.0.1 legal.0 in
      subst (λ (l : List Entry). t / r.factor ≤ count_at r (after_all at l) g) (sym (if_same u (t + 1) [] (Host u ∷ up_to_tick t es) same))
      (subst (λ (k : ℕ). k / r.factor ≤ count_at r at g) here (share_done r at g lt next.4))
  | inr other ↦
      let still : u ≤ t = omega (arith, legal.0.1, early, other) in
      subst (λ (l : List Entry). t / r.factor ≤ count_at r (after_all at l) g) (sym (if_not u (t + 1) [] (Host u ∷ up_to_tick t es) other))
      (share_told r es (after at (Host u)) t g lt legal.1 still few (subst (λ (b : Bool). (b || list_any (is_past t) es) ≡ true) (ne_eqb u (t + 1) other) past))
]

-- the entries up to the end of a host tick are legal too
legal_cut : (r : Rules) (at : At) (es : List Entry) (b : Bool) → IsLegalFrom r at es → IsLegalFrom r at (cond b [] es)
legal_cut r at es true legal = tt
legal_cut r at es false legal = legal

pub legal_up_to : (r : Rules) (es : List Entry) (at : At) (t : ℕ) → IsLegalFrom r at es → IsLegalFrom r at (up_to_tick t es)
legal_up_to r [] at t legal = tt
legal_up_to r (e ∷ es) at t legal = legal_cut r at (e ∷ up_to_tick t es) (is_past t e) (legal.0, legal_up_to r es (after at e) t legal.1)

pub kept_up : (r : Rules) (es : List Entry) (t g : ℕ) → StartsEmpty r g → IsLegal r es → list_any (is_past t) es ≡ true → t ≤ r.host_ticks → g < r.guests
    → t / r.factor ≤ count_of g (up_to_tick t es)
kept_up r es t g empty legal past few lt =
    subst (λ (n : ℕ). t / r.factor ≤ n) (sym (counts_told r (up_to_tick t es) start g 0 (legal_up_to r es start t legal) empty.ticks))
    (share_told r es start t g lt legal (omega arith) few past)

-- in a complete journal each host tick is past somewhere
past_with : (b c : Bool) → c ≡ true → (b || c) ≡ true
past_with true c h = refl
past_with false c h = h

past_end : (t : ℕ) (es : List Entry) (at : At) → at.ended ≡ false → (after_all at es).ended ≡ true → list_any (is_past t) es ≡ true
past_end t [] at going over = absurd (cc (going, over))
past_end t (Host u ∷ es) at going over = past_with (u == t + 1) (list_any (is_past t) es) (past_end t es (after at (Host u)) refl over)
past_end t (Slot s ∷ es) at going over = past_end t es (after at (Slot s)) refl over
past_end t (Ran q recs ∷ es) at going over = past_end t es (after at (Ran q recs)) refl over
past_end t (End ∷ es) at going over = refl

pub past_complete : (r : Rules) (es : List Entry) (t : ℕ) → IsComplete r es → list_any (is_past t) es ≡ true
past_complete r es t complete = past_end t es start refl complete.ended
