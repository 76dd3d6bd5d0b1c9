-- The first that is best, of what was looked at so far.
use Rattle.std.proofs.Common.{set, suc, cond, count_by, [], ◌∷◌, ◌-◌, ◌≡◌, ℕ, ◌<◌, ◌≤◌, ◌+◌, ◌&&◌, ◌||◌, not, nat_le, Bool, true, false, List, length, get_or, Option, Some, None, IfSome, IfNone, refl, sym, ap, ◌∙◌, arith, subst}
use Rattle.std.proofs.lemmas.Bool.{false≢true, false_from_ne_true, and_from, le-leb, lt-leb}
use Rattle.std.proofs.lemmas.Bool.Decides.{nat_tests}
use Rattle.std.proofs.lemmas.List.{get_or_default}
use Rattle.std.proofs.lemmas.List.Sums.{sum_by-cons, sum_by-set, position_or_len_is, AllPass-from_list_all, list_all-from_AllPass}
use Rattle.std.specs.List.{position_or_len, list_all}
use Rattle.host_plan.specs.declared.fill.Fill.{Fill}
use Rattle.host_plan.specs.declared.assignment.Assignment.{Assignment}
use Rattle.host_plan.specs.Placing.{is_free, free_count, is_next, next, has_room, first_room, is_roomiest}

abbrev pub assignment_at : List Assignment → ℕ → Assignment
assignment_at assignments i = get_or assignments i (record { rate = 0; home = None })

abbrev pub fill_at : List Fill → ℕ → Fill
fill_at ls i = get_or ls i (record { need = 0; have = 0 })

-- a list in which an item fails a test
fails_at : {X : Type 0} (p : X → Bool) (xs : List X) (k : ℕ) (d : X) → k < length xs → p (get_or xs k d) ≡ false → list_all p xs ≡ false
fails_at p xs k d h fails = false_from_ne_true (list_all p xs) (λ yes. false≢true (sym fails ∙ AllPass-from_list_all p xs yes k d h))

passes_all : {X : Type 0} (p : X → Bool) (xs : List X) (d : X) → ((k : ℕ) → k < length xs → p (get_or xs k d) ≡ true) → list_all p xs ≡ true
passes_all p xs d all = list_all-from_AllPass p xs (λ k c h. ap p (get_or_default xs k c d h) ∙ all k h)

-- the guest without a slot that goes first, of the first so many
pub record IsBest (assignments : List Assignment) (i b : ℕ) : Type 0 where
  pub within : b < i
  pub free : is_free (assignment_at assignments b) ≡ true
  pub high : (k : ℕ) → k < i → is_free (assignment_at assignments k) ≡ true → (assignment_at assignments k).rate ≤ (assignment_at assignments b).rate
  pub before : (k : ℕ) → k < b → is_free (assignment_at assignments k) ≡ true → (assignment_at assignments k).rate < (assignment_at assignments b).rate

abbrev pub IsBestBefore : List Assignment → ℕ → Option ℕ → Type 0
IsBestBefore assignments i None = (k : ℕ) → k < i → is_free (assignment_at assignments k) ≡ false
IsBestBefore assignments i (Some b) = IsBest assignments i b

at_most : (t : Bool) (m n : ℕ) → (t ≡ true → m ≤ n) → (not t || nat_le m n) ≡ true
at_most false m n h = refl
at_most true m n h = let low : m ≤ n = h refl in grind (arith, nat_tests)

above : (t : Bool) (m n : ℕ) → t ≡ true → n < m → (not t || nat_le m n) ≡ false
above true m n e h = grind (arith, nat_tests)
above false m n e h = absurd (false≢true e)

and_false : (a b : Bool) → (a ≡ true → b ≡ false) → (a && b) ≡ false
and_false true b h = h refl
and_false false b h = refl

no_faster : Assignment → Assignment → Bool
no_faster x y = not (is_free y) || nat_le y.rate x.rate

is_it : (assignments : List Assignment) (b : ℕ) → IsBest assignments (length assignments) b → is_next assignments (assignment_at assignments b) ≡ true
unfolding no_faster
is_it assignments b best = and_from (is_free (assignment_at assignments b)) (list_all (no_faster (assignment_at assignments b)) assignments) best.free
    (passes_all (no_faster (assignment_at assignments b)) assignments (record { rate = 0; home = None })
    (λ k h. at_most (is_free (assignment_at assignments k)) (assignment_at assignments k).rate (assignment_at assignments b).rate (best.high k h)))

not_yet : (assignments : List Assignment) (k b : ℕ) → b < length assignments → k < b → IsBest assignments (length assignments) b → is_next assignments (assignment_at assignments k) ≡ false
unfolding no_faster
not_yet assignments k b h low best = and_false (is_free (assignment_at assignments k)) (list_all (no_faster (assignment_at assignments k)) assignments)
    (λ free. fails_at (no_faster (assignment_at assignments k)) assignments b (record { rate = 0; home = None }) h
    (above (is_free (assignment_at assignments b)) (assignment_at assignments b).rate (assignment_at assignments k).rate best.free (best.before k low free)))

pub next_is : (assignments : List Assignment) (b : ℕ) → IsBest assignments (length assignments) b → next assignments ≡ b
next_is assignments b best =
    let h : b < length assignments = best.within in
    position_or_len_is (is_next assignments) assignments b (record { rate = 0; home = None }) (omega arith) (λ k low. not_yet assignments k b h low best) (λ _. is_it assignments b best)

pub next_none : (assignments : List Assignment) → ((k : ℕ) → k < length assignments → is_free (assignment_at assignments k) ≡ false) → next assignments ≡ length assignments
next_none assignments none =
    position_or_len_is (is_next assignments) assignments (length assignments) (record { rate = 0; home = None }) (omega arith)
    (λ k low. and_false (is_free (assignment_at assignments k)) _ (λ free. absurd (false≢true (sym (none k low) ∙ free)))) (λ h. absurd (omega arith))

-- the slot with the most left, of the first so many
pub record IsRoomiestBefore (ls : List Fill) (i b : ℕ) : Type 0 where
  pub within : b < i
  pub high : (k : ℕ) → k < i → (fill_at ls k).have + (fill_at ls b).need ≤ (fill_at ls b).have + (fill_at ls k).need
  pub before : (k : ℕ) → k < b → (fill_at ls k).have + (fill_at ls b).need < (fill_at ls b).have + (fill_at ls k).need

not_roomier : Fill → Fill → Bool
not_roomier l k = nat_le (k.have + l.need) (l.have + k.need)

pub roomiest_is : (ls : List Fill) (b : ℕ) → IsRoomiestBefore ls (length ls) b → position_or_len (is_roomiest ls) ls ≡ b
unfolding not_roomier
roomiest_is ls b best =
    let h : b < length ls = best.within in
    position_or_len_is (is_roomiest ls) ls b (record { need = 0; have = 0 }) (omega arith)
    (λ k low. fails_at (not_roomier (fill_at ls k)) ls b (record { need = 0; have = 0 }) h
    (lt-leb ((fill_at ls b).have + (fill_at ls k).need) ((fill_at ls k).have + (fill_at ls b).need) (best.before k low)))
    (λ _. passes_all (not_roomier (fill_at ls b)) ls (record { need = 0; have = 0 })
    (λ k c. le-leb ((fill_at ls k).have + (fill_at ls b).need) ((fill_at ls b).have + (fill_at ls k).need) (best.high k c)))

pub first_found : (rate : ℕ) (ls : List Fill) (s : ℕ) → s < length ls → ((k : ℕ) → k < s → has_room rate (fill_at ls k) ≡ false) → (fill_at ls s).need + rate ≤ (fill_at ls s).have → first_room rate ls ≡ s
first_found rate ls s h before room =
    position_or_len_is (has_room rate) ls s (record { need = 0; have = 0 }) (omega arith) before (λ _. le-leb ((fill_at ls s).need + rate) (fill_at ls s).have room)

pub none_found : (rate : ℕ) (ls : List Fill) (s : ℕ) → length ls ≤ s → ((k : ℕ) → k < s → has_room rate (fill_at ls k) ≡ false) → first_room rate ls ≡ length ls
none_found rate ls s h before =
    position_or_len_is (has_room rate) ls (length ls) (record { need = 0; have = 0 }) (omega arith) (λ k low. before k (omega arith)) (λ e. absurd (omega arith))

pub best_some : (assignments : List Assignment) (i : ℕ) (best : Option ℕ) → i ≡ length assignments → IsBestBefore assignments i best → IfSome best (λ b. (b < length assignments) × (next assignments ≡ b))
best_some assignments i None e h = tt
best_some assignments i (Some b) e h = (let under = h.within in omega (arith, under, e), next_is assignments b (subst (λ z. IsBest assignments z b) e h))

pub best_none : (assignments : List Assignment) (i : ℕ) (best : Option ℕ) → i ≡ length assignments → IsBestBefore assignments i best → IfNone best (next assignments ≡ length assignments)
best_none assignments i None e h = next_none assignments (λ k low. h k (omega (arith, low, e)))
best_none assignments i (Some b) e h = tt

uncounted : {X : Type 0} (p : X → Bool) (xs : List X) → ((k : ℕ) (d : X) → k < length xs → p (get_or xs k d) ≡ false) → count_by p xs ≡ 0
uncounted p [] none = refl
uncounted p (x ∷ xs) none =
    let head : p x ≡ false = none 0 x (omega arith) in
    let tail : count_by p xs ≡ 0 = uncounted p xs (λ k d h. none (suc k) d (omega (arith, h))) in
    let all : count_by p (x ∷ xs) ≡ cond (p x) 1 0 + count_by p xs = sum_by-cons (λ y. cond (p y) 1 0) x xs in
    let zero_here = ap (λ t. cond {A = ℕ} t 1 0) head in
    omega (arith, tail, all, zero_here)

pub best_left : (assignments : List Assignment) (i : ℕ) (best : Option ℕ) → i ≡ length assignments → IsBestBefore assignments i best → IfNone best (free_count assignments ≡ 0)
best_left assignments i None e h = uncounted is_free assignments (λ k d low. ap is_free (get_or_default assignments k d (record { rate = 0; home = None }) low) ∙ h k (omega (arith, low, e)))
best_left assignments i (Some b) e h = tt

-- one guest more placed leaves one less
pub one_left : (assignments : List Assignment) (i s : ℕ) → i < length assignments → is_free (assignment_at assignments i) ≡ true
    → free_count (set assignments i (record { rate = (assignment_at assignments i).rate; home = Some s })) ≤ free_count assignments - 1
one_left assignments i s h free =
    let sums = sum_by-set (λ (x : Assignment). cond {A = ℕ} (is_free x) 1 0) assignments i (record { rate = (assignment_at assignments i).rate; home = Some s }) (record { rate = 0; home = None }) h in
    let was = ap (λ t. cond {A = ℕ} t 1 0) free in
    omega (arith, sums, was)
