-- What one guest more placed changes.
use Rattle.std.proofs.Common.{◌≡◌, ◌≢◌, ◌==◌, ℕ, ◌<◌, ◌≤◌, ◌+◌, ◌-◌, suc, true, false, cond, All, List, [], ◌∷◌, ◌++◌, length, map, take, drop, get_or, set, slice_get, Option, Some, None, IfSome, inl, inr, refl, sym, ap, ◌∙◌, arith, subst}
use Rattle.std.proofs.lemmas.Bool.{false≢true, and_parts, cases_eq}
use Rattle.std.proofs.lemmas.Bool.Decides.{nat_tests}
use Rattle.std.proofs.lemmas.List.{same_lists, get_or-set_same, get_or-set_other, length-set, length-map, take_at}
use Rattle.std.proofs.lemmas.List.Elements.{All-map}
use Rattle.std.proofs.lemmas.Nat.{mul-le}
use Rattle.std.proofs.lemmas.Option.{slice_get-get_or}
use Rattle.std.proofs.lemmas.List.FromFn.{map-range_with_len_more, length-map-range_with_len, get_or-map-range_with_len}
use Rattle.std.proofs.lemmas.List.Sums.{passes_at_first, count_by-le-length}
use Rattle.std.specs.List.{range_with_len}
use Rattle.std.specs.Option.{is_none, unwrap_or}
use Rattle.exp_file.specs.declared.experiment.Experiment.{Experiment}
use Rattle.exp_file.specs.declared.slot_spec.SlotSpec.{SlotSpec}
use Rattle.exp_file.specs.WellFormed.{IsSlot, IsWellFormed}
use Rattle.host_plan.specs.declared.fill.Fill.{Fill}
use Rattle.host_plan.specs.declared.assignment.Assignment.{Assignment}
use Rattle.host_plan.specs.Bounds.{AreAssignments, AreFills}
use Rattle.host_plan.specs.Fits.{have, capacity, capacity_if, IsPlacement}
use Rattle.host_plan.specs.Placing.{is_at, is_free, free_count, is_next, next, need_so_far, fill_of, fills_of, assignment_of, settle, settled, assigned, home_of, placed}
use Rattle.host_plan.proofs.Firsts.{assignment_at, fill_at}
use Rattle.host_plan.proofs.Sums.{taken, need-set, need-le}

none_home : (o : Option ℕ) → is_none o ≡ true → o ≡ None
none_home None h = refl
none_home (Some s) h = absurd (false≢true h)

-- the guest that is next has no slot
pub next_free : (assignments : List Assignment) (i : ℕ) → i < length assignments → next assignments ≡ i → (assignment_at assignments i).home ≡ None
next_free assignments i h e =
    let passes : is_next assignments (assignment_at assignments (next assignments)) ≡ true = passes_at_first (is_next assignments) assignments (record { rate = 0; home = None }) (omega (arith, h, e)) in
    let here : is_next assignments (assignment_at assignments i) ≡ true = subst (λ z. is_next assignments (assignment_at assignments z) ≡ true) e passes in
    none_home (assignment_at assignments i).home (and_parts (is_free (assignment_at assignments i)) _ here).0

pub is_left : (x : Assignment) → x.home ≡ None → is_free x ≡ true
is_left x h = ap is_none h

pub none_left : (e : Experiment) (assignments : List Assignment) → assignments ≡ assigned e → free_count assignments ≡ 0 → free_count (assigned e) ≡ 0
none_left e assignments same h = ap free_count (sym same) ∙ h

taken_none : (x : Assignment) (k : ℕ) → x.home ≡ None → taken k x ≡ 0
taken_none x k h = ap (λ (o : Option ℕ). cond (is_at k o) x.rate 0) h

-- a guest with a slot
abbrev pub assigned_at : Assignment → ℕ → Assignment
assigned_at x s = record { rate = x.rate; home = Some s }

need_moves : (assignments : List Assignment) (i s k : ℕ) → i < length assignments → (assignment_at assignments i).home ≡ None
    → need_so_far (set assignments i (assigned_at (assignment_at assignments i) s)) k ≡ need_so_far assignments k + cond (s == k) (assignment_at assignments i).rate 0
need_moves assignments i s k h free =
    let sums = need-set assignments i k (assigned_at (assignment_at assignments i) s) (record { rate = 0; home = None }) h in
    let old = taken_none (assignment_at assignments i) k free in
    omega (arith, sums, old)

need_here : (assignments : List Assignment) (i s : ℕ) → i < length assignments → (assignment_at assignments i).home ≡ None
    → need_so_far (set assignments i (assigned_at (assignment_at assignments i) s)) s ≡ need_so_far assignments s + (assignment_at assignments i).rate
need_here assignments i s h free =
    let same : (s == s) ≡ true = grind (arith, nat_tests) in
    need_moves assignments i s s h free ∙ ap (λ t. need_so_far assignments s + cond t (assignment_at assignments i).rate 0) same

need_there : (assignments : List Assignment) (i s k : ℕ) → k ≢ s → i < length assignments → (assignment_at assignments i).home ≡ None
    → need_so_far (set assignments i (assigned_at (assignment_at assignments i) s)) k ≡ need_so_far assignments k
need_there assignments i s k other h free =
    let different : (s == k) ≡ false = grind (arith, nat_tests) in
    let moved = need_moves assignments i s k h free ∙ ap (λ t. need_so_far assignments k + cond t (assignment_at assignments i).rate 0) different in
    omega (arith, moved)

-- how full the slots are with one guest more on one of them
abbrev pub filled : List Fill → ℕ → ℕ → List Fill
filled ls s rate = set ls s (record { need = (fill_at ls s).need + rate; have = (fill_at ls s).have })

fill_at-is : (e : Experiment) (assignments : List Assignment) (ls : List Fill) (k : ℕ) (d : Fill) → ls ≡ fills_of e assignments → k < length e.slots.items → get_or ls k d ≡ fill_of e assignments k
fill_at-is e assignments ls k d same h = ap (λ (z : List Fill). get_or z k d) same ∙ get_or-map-range_with_len (fill_of e assignments) 0 (length e.slots.items) k k d h (omega arith)

fills-len : (e : Experiment) (assignments : List Assignment) (ls : List Fill) → ls ≡ fills_of e assignments → length ls ≡ length e.slots.items
fills-len e assignments ls same = ap length same ∙ length-map-range_with_len (fill_of e assignments) 0 (length e.slots.items)

filled_at : (e : Experiment) (assignments : List Assignment) (ls : List Fill) (i s rate k : ℕ) (d : Fill) → ls ≡ fills_of e assignments → i < length assignments → (assignment_at assignments i).home ≡ None → rate ≡ (assignment_at assignments i).rate
    → s < length ls → k < length e.slots.items → get_or (filled ls s rate) k d ≡ fill_of e (set assignments i (assigned_at (assignment_at assignments i) s)) k
filled_at e assignments ls i s rate k d same h free r low within = elim (cases_eq k s) as (λ _. get_or (filled ls s rate) k d ≡ fill_of e (set assignments i (assigned_at (assignment_at assignments i) s)) k) [
  | inl here ↦
      let old = fill_at-is e assignments ls s (record { need = 0; have = 0 }) same (omega (arith, within, here)) in
      let new : need_so_far assignments s + rate ≡ need_so_far (set assignments i (assigned_at (assignment_at assignments i) s)) s = ap (λ z. need_so_far assignments s + z) r ∙ sym (need_here assignments i s h free) in
      ap (λ z. get_or (filled ls s rate) z d) here ∙ get_or-set_same ls s _ d low
      ∙ ap (λ (z : Fill). record { need = z.need + rate; have = z.have }) old
      ∙ ap (λ z. record { need = z; have = have e s }) new
      ∙ ap (fill_of e (set assignments i (assigned_at (assignment_at assignments i) s))) (sym here)
  | inr other ↦
      get_or-set_other ls s k _ d other ∙ fill_at-is e assignments ls k d same within
      ∙ ap (λ z. record { need = z; have = have e k }) (sym (need_there assignments i s k other h free))
]

pub filled_all : (e : Experiment) (assignments : List Assignment) (ls : List Fill) (i s rate : ℕ) → ls ≡ fills_of e assignments → i < length assignments → (assignment_at assignments i).home ≡ None → rate ≡ (assignment_at assignments i).rate
    → s < length ls → filled ls s rate ≡ fills_of e (set assignments i (assigned_at (assignment_at assignments i) s))
filled_all e assignments ls i s rate same h free r low =
    let new = set assignments i (assigned_at (assignment_at assignments i) s) in
    let len : length (filled ls s rate) ≡ length e.slots.items = length-set ls s _ ∙ fills-len e assignments ls same in
    same_lists (filled ls s rate) (fills_of e new) (len ∙ sym (length-map-range_with_len (fill_of e new) 0 (length e.slots.items)))
    (λ k d under.
    let within : k < length e.slots.items = omega (arith, under, len) in
    filled_at e assignments ls i s rate k d same h free r low within ∙ sym (get_or-map-range_with_len (fill_of e new) 0 (length e.slots.items) k k d within (omega arith)))

pub pushed_fill : (e : Experiment) (assignments : List Assignment) (ls next : List Fill) (s : ℕ) (l : Fill) → ls ≡ map (fill_of e assignments) (range_with_len 0 s) → l.need ≡ need_so_far assignments s → l.have ≡ have e s
    → next ≡ ls ++ l ∷ [] → next ≡ map (fill_of e assignments) (range_with_len 0 (s + 1))
pushed_fill e assignments ls next s l before n v pushed =
    let same : l ≡ fill_of e assignments s = ap (λ z. record { need = z; have = l.have }) n ∙ ap (λ z. record { need = need_so_far assignments s; have = z }) v in
    pushed ∙ ap (λ (z : List Fill). z ++ l ∷ []) before ∙ ap (λ (z : Fill). map (fill_of e assignments) (range_with_len 0 s) ++ z ∷ []) same
    ∙ sym (map-range_with_len_more (fill_of e assignments) 0 s s (omega arith))

-- the guests of an experiment with their given slots, and how full those are
pub assignments_bounded : (e : Experiment) (assignments : List Assignment) → IsWellFormed e → assignments ≡ map assignment_of e.guests.items → AreAssignments assignments
assignments_bounded e assignments well same = subst AreAssignments (sym same) (record {
  few = let len = length-map e.guests.items assignment_of in let few = well.guests_high in omega (arith, len, few);
  rates = All-map (λ (x : Assignment). x.rate ≤ 100000) assignment_of e.guests.items (λ k d h. (well.guests k d h).rate_high);
})

capacity-le : (xs : List SlotSpec) (k : ℕ) → All IsSlot xs → k < length xs → capacity_if (slice_get xs k) ≤ 1000000
capacity-le xs k all h = subst (λ z. capacity_if z ≤ 1000000) (sym (slice_get-get_or xs k (record { capacity = 0 }) h)) (all k (record { capacity = 0 }) h).capacity_high

haves_bounded : (e : Experiment) (k : ℕ) → IsWellFormed e → k < length e.slots.items → have e k ≤ 1000000000
haves_bounded e k well h = mul-le (capacity e k) e.factor 1000000 1000 (capacity-le e.slots.items k well.slots h) well.factor_high

pub fills_bounded : (e : Experiment) (assignments : List Assignment) (ls : List Fill) → IsWellFormed e → AreAssignments assignments → ls ≡ fills_of e assignments → AreFills ls
fills_bounded e assignments ls well bounded same =
    let len = fills-len e assignments ls same in record {
      some = let low = well.slots_low in omega (arith, len, low);
      few = let high = well.slots_high in omega (arith, len, high);
      needs = λ k d h. subst (λ (z : Fill). z.need ≤ 3200000) (sym (fill_at-is e assignments ls k d same (omega (arith, h, len)))) (need-le assignments k bounded.few bounded.rates);
      haves = λ k d h. subst (λ (z : Fill). z.have ≤ 1000000000) (sym (fill_at-is e assignments ls k d same (omega (arith, h, len)))) (haves_bounded e k well (omega (arith, h, len)));
    }

-- where a plan stands after so many guests
pub record IsSettling (e : Experiment) (assignments : List Assignment) (ls : List Fill) (k : ℕ) : Type 0 where
  pub rest : settled e (length e.guests.items - k) assignments ≡ assigned e
  pub full : ls ≡ fills_of e assignments
  pub bounded : AreAssignments assignments
  pub len : length assignments ≡ length e.guests.items
  pub left : free_count assignments ≤ length e.guests.items - k
  pub homes : All (λ x. IfSome x.home (λ s. s < length e.slots.items)) assignments

pub settling_starts : (e : Experiment) (assignments : List Assignment) (ls : List Fill) → IsWellFormed e → assignments ≡ map assignment_of e.guests.items → ls ≡ fills_of e assignments → IsSettling e assignments ls 0
unfolding assigned
settling_starts e assignments ls well same full = record {
  rest = let all : length e.guests.items - 0 ≡ length e.guests.items = omega arith in ap (λ n. settled e n assignments) all ∙ ap (settled e (length e.guests.items)) same;
  full = full;
  bounded = assignments_bounded e assignments well same;
  len = ap length same ∙ length-map e.guests.items assignment_of;
  left = let few = count_by-le-length is_free assignments in let len = ap length same ∙ length-map e.guests.items assignment_of in omega (arith, few, len);
  homes = subst (λ z. All (λ (x : Assignment). IfSome x.home (λ s. s < length e.slots.items)) z) (sym same)
      (All-map (λ (x : Assignment). IfSome x.home (λ s. s < length e.slots.items)) assignment_of e.guests.items (λ k d h. (well.guests k d h).slot));
}

settled_more : (e : Experiment) (n m : ℕ) (assignments : List Assignment) → n ≡ suc m → settled e n assignments ≡ settled e m (settle (fills_of e assignments) assignments)
unfolding settled
settled_more e n m assignments h = ap (λ z. settled e z assignments) h

settled_none : (e : Experiment) (n : ℕ) (assignments : List Assignment) → n ≡ 0 → settled e n assignments ≡ assignments
unfolding settled
settled_none e n assignments h = ap (λ z. settled e z assignments) h

pub settling_goes : (e : Experiment) (assignments new : List Assignment) (ls more : List Fill) (k : ℕ) → IsSettling e assignments ls k → k < length e.guests.items → new ≡ settle ls assignments → more ≡ fills_of e new → AreAssignments new
    → length new ≡ length assignments → free_count new ≤ free_count assignments - 1 → All (λ x. IfSome x.home (λ s. s < length e.slots.items)) new → IsSettling e new more (k + 1)
settling_goes e assignments new ls more k so h settles full bounded len less homes = record {
  rest =
      ap (settled e (length e.guests.items - (k + 1))) (settles ∙ ap (λ z. settle z assignments) so.full)
      ∙ sym (settled_more e (length e.guests.items - k) (length e.guests.items - (k + 1)) assignments (omega arith)) ∙ so.rest;
  full = full;
  bounded = bounded;
  len = len ∙ so.len;
  left = let before = so.left in omega (arith, before, less, h);
  homes = homes;
}

pub settling_ends : (e : Experiment) (assignments : List Assignment) (ls : List Fill) (k : ℕ) → IsSettling e assignments ls k → length e.guests.items ≤ k → assignments ≡ assigned e
settling_ends e assignments ls k so h = sym (settled_none e (length e.guests.items - k) assignments (omega arith)) ∙ so.rest

home-lt : (n : ℕ) (o : Option ℕ) → 0 < n → IfSome o (λ s. s < n) → unwrap_or o 0 < n
home-lt n None some h = some
home-lt n (Some s) some h = h

-- the slots on which guests stand
pub homes_within : (n : ℕ) (assignments : List Assignment) → 0 < n → All (λ x. IfSome x.home (λ s. s < n)) assignments → All (λ s. s < n) (map home_of assignments)
homes_within n assignments some homes = All-map (λ (s : ℕ). s < n) home_of assignments (λ k d h. home-lt n (get_or assignments k d).home some (homes k d h))

pub placed_all : (e : Experiment) (assignments : List Assignment) (slots : List ℕ) → assignments ≡ assigned e → slots ≡ map home_of assignments → slots ≡ placed e
unfolding placed
placed_all e assignments slots same is = is ∙ ap (map home_of) same

pub is_placement : (e : Experiment) (assignments : List Assignment) (slots : List ℕ) → IsWellFormed e → length assignments ≡ length e.guests.items → All (λ x. IfSome x.home (λ s. s < length e.slots.items)) assignments
    → slots ≡ map home_of assignments → IsPlacement e slots
is_placement e assignments slots well len homes is = record {
  one_each = ap length is ∙ length-map assignments home_of ∙ len;
  slots = subst (λ z. All (λ (s : ℕ). s < length e.slots.items) z) (sym is) (homes_within (length e.slots.items) assignments (let low = well.slots_low in omega (arith, low)) homes);
}

-- the same step by slices of the two vectors
pub settling_step : (e : Experiment) (assignments old new after : List Assignment) (ls full more filled : List Fill) (k : ℕ) → IsSettling e assignments ls k → k < length e.guests.items → old ≡ assignments → full ≡ ls → new ≡ settle full old
    → ((x : Experiment) → full ≡ fills_of x old → more ≡ fills_of x new) → AreAssignments new → length new ≡ length old → free_count new ≤ free_count old - 1
    → ((n : ℕ) → n ≡ length full → All (λ x. IfSome x.home (λ s. s < n)) old → All (λ x. IfSome x.home (λ s. s < n)) new)
    → after ≡ new → filled ≡ more → IsSettling e after filled (k + 1)
settling_step e assignments old new after ls full more filled k so h same same_full settles fills bounded len less homes is_new is_more =
    let full_is : full ≡ fills_of e old = same_full ∙ so.full ∙ ap (fills_of e) (sym same) in
    let next : IsSettling e new more (k + 1) = settling_goes e assignments new ls more k so h (settles ∙ ap (λ z. settle z old) same_full ∙ ap (settle ls) same) (fills e full_is) bounded (len ∙ ap length same) (subst (λ z. free_count new ≤ free_count z - 1) same less)
    (homes (length e.slots.items) (sym (fills-len e old full full_is)) (subst (λ z. All (λ (x : Assignment). IfSome x.home (λ s. s < length e.slots.items)) z) (sym same) so.homes)) in
    subst (λ z. IsSettling e z filled (k + 1)) (sym is_new) (subst (λ z. IsSettling e new z (k + 1)) (sym is_more) next)

-- what a vector holds after its slice was written
pub whole : {X : Type 0} (n : ℕ) (new old : List X) → n ≡ length old → length new ≡ length old → take n (new ++ drop (length new) old) ≡ new
whole n new old a b = take_at new (drop (length new) old) n (b ∙ sym a)
