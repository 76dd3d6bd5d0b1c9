-- Where records name their ticks, those of a guest's first ticks that a complete legal journal has are its trace up to there.
use Rattle.std.proofs.Common.{◌≡◌, ◌∙◌, ℕ, zero, suc, ◌<◌, ◌≤◌, ◌/◌, List, [], ◌∷◌, ◌++◌, true, false, refl, sym, ap, ap₂, subst, arith, inl, inr}
use Rattle.std.specs.List.{filter}
use Rattle.std.proofs.lemmas.Bool.{cases_lt, cond-true, cond-false, lt-ltb, le-ltb}
use Rattle.std.proofs.lemmas.List.{append-nil}
use Rattle.std.proofs.lemmas.List.Elements.{filter-append}
use Rattle.trace_rec.specs.Ticks.{AreOf}
use Rattle.trace_rec.specs.declared.rec.Rec.{Rec}
use Rattle.lookahead_core.specs.Motion.{Motion}
use Rattle.lookahead_core.specs.Synchronous.{Setup, trace, records_of}
use Rattle.host_journal.specs.Entries.{Entry, Host, Slot, Ran, End}
use Rattle.host_journal.specs.Guests.{is_below, recs_below}
use Rattle.host_journal.specs.Printed.{count_of}
use Rattle.slot_sched.specs.Legal.{Rules, At, MayCome, IsLegalFrom, IsComplete, after, after_all, count_at, start}
use Rattle.slot_sched.specs.Schedule.{HostSetup, rules}
use Rattle.slot_sched.specs.Told.{RecordsNameTicks}
use Rattle.slot_sched.proofs.Telling.{tells, counts_told, share_done}

-- nothing comes behind the end
no_more : (r : Rules) (at : At) (e : Entry) → MayCome r (after at End) e → ⊥
no_more r at (Host t) m = absurd (cc m.0)
no_more r at (Slot s) m = absurd (cc m.0)
no_more r at (Ran q recs) m = absurd (cc m.0)
no_more r at End m = absurd (cc m.0)

-- at the end each guest has done its share of the host ticks
share_at_end : (r : Rules) (es : List Entry) (at : At) (g : ℕ) → g < r.guests → IsLegalFrom r at es → at.ended ≡ false → (after_all at es).ended ≡ true
    → r.host_ticks / r.factor ≤ count_at r (after_all at es) g
share_at_end r [] at g lt legal going over = absurd (cc (going, over))
share_at_end r (Host t ∷ es) at g lt legal going over = share_at_end r es (after at (Host t)) g lt legal.1 refl over
share_at_end r (Slot s ∷ es) at g lt legal going over = share_at_end r es (after at (Slot s)) g lt legal.1 refl over
share_at_end r (Ran q recs ∷ es) at g lt legal going over = share_at_end r es (after at (Ran q recs)) g lt legal.1 refl over
share_at_end r (End ∷ []) at g lt legal going over = subst (λ (t : ℕ). t / r.factor ≤ count_at r at g) legal.0.1 (share_done r at g lt legal.0.2)
share_at_end r (End ∷ e ∷ es) at g lt legal going over = absurd (no_more r at e legal.1.0)

-- of the records of one tick all or none are below k
none_pass : (n k : ℕ) (recs : List Rec) → k ≤ n → AreOf n recs → filter (is_below k) recs ≡ []
none_pass n k [] le all = refl
none_pass n k (r ∷ rs) le all =
    cond-false (is_below k r) (r ∷ filter (is_below k) rs) (filter (is_below k) rs) (le-ltb r.tick k (omega (arith, all.0, le))) ∙ none_pass n k rs le all.1

all_pass : (n k : ℕ) (recs : List Rec) → n < k → AreOf n recs → filter (is_below k) recs ≡ recs
all_pass n k [] lt all = refl
all_pass n k (r ∷ rs) lt all =
    cond-true (is_below k r) (r ∷ filter (is_below k) rs) (filter (is_below k) rs) (lt-ltb r.tick k (omega (arith, all.0, lt))) ∙ ap (λ (x : List Rec). r ∷ x) (all_pass n k rs lt all.1)

trace_passes : {S : Type 0} (m : Motion S) (x : Setup S) (g n k : ℕ) → RecordsNameTicks m x → n ≤ k → filter (is_below k) (trace m x g n) ≡ trace m x g n
trace_passes m x g zero k named le = refl
trace_passes m x g (suc n) k named le =
    filter-append (is_below k) (trace m x g n) (records_of m x g n)
    ∙ ap₂ (λ (a b : List Rec). a ++ b) (trace_passes m x g n k named (omega arith)) (all_pass n k (records_of m x g n) (omega arith) (named g n))

-- so the first ticks are cut out of a trace
trace_cut : {S : Type 0} (m : Motion S) (x : Setup S) (g n k : ℕ) → RecordsNameTicks m x → k ≤ n → filter (is_below k) (trace m x g n) ≡ trace m x g k
trace_cut m x g zero k named le = let e : zero ≡ k = omega arith in ap (trace m x g) e
trace_cut m x g (suc n) k named le = elim (cases_lt n k) [
  | inl lt ↦ let e : suc n ≡ k = omega arith in trace_passes m x g (suc n) k named (omega arith) ∙ ap (trace m x g) e
  | inr ge ↦
      filter-append (is_below k) (trace m x g n) (records_of m x g n)
      ∙ ap₂ (λ (a b : List Rec). a ++ b) (trace_cut m x g n k named ge) (none_pass n k (records_of m x g n) ge (named g n))
      ∙ append-nil (trace m x g k)
]

pub early_told : {S : Type 0} (m : Motion S) (x : Setup S) (p : HostSetup) (es : List Entry) (g k : ℕ) → RecordsNameTicks m x → IsComplete (rules m x p) es → g < x.count → k ≤ p.host_ticks / p.factor
    → recs_below k es g ≡ trace m x g k
early_told m x p es g k named complete lt le =
    let r : Rules = rules m x p in
    let told = tells r es g (record { ticks = refl; trace = refl }) complete.legal in
    let share : p.host_ticks / p.factor ≤ count_of g es =
    subst (λ (n : ℕ). p.host_ticks / p.factor ≤ n) (sym (counts_told r es start g 0 complete.legal refl)) (share_at_end r es start g lt complete.legal refl complete.ended) in
    let enough : k ≤ count_of g es = omega (arith, le, share) in
    ap (filter (is_below k)) told.records ∙ trace_cut m x g (count_of g es) k named enough
