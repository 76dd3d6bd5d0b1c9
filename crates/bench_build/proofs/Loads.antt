-- The sums by which a placement fits are those by which a bench asks it.
use Rattle.std.proofs.Common.{◌≡◌, ◌==◌, ℕ, zero, suc, ◌+◌, ◌*◌, ◌<◌, ◌≤◌, Bool, true, false, cond, List, [], ◌∷◌, length, map, Some, refl, sym, ap, ◌∙◌, arith}
use Rattle.std.specs.Prelude.{slice_index, slice_index_or, slice_get, All}
use Rattle.std.specs.List.{sum, filter, zip}
use Rattle.std.proofs.lemmas.List.Sums.{sum_by-cons}
use Rattle.exp_file.specs.declared.guest_spec.GuestSpec.{GuestSpec}
use Rattle.exp_file.specs.declared.slot_spec.SlotSpec.{SlotSpec}
use Rattle.exp_file.specs.declared.experiment.Experiment.{Experiment}
use Rattle.exp_file.specs.WellFormed.{IsSlot}
use Rattle.host_plan.specs.Fits.{need, rates_on, capacity, capacity_if, Fits}
use Rattle.slot_sched.specs.Schedule.{sum_at}
use Rattle.bench_build.specs.Setups.{capacity_of}
use Rattle.bench_build.proofs.Standing.{some_is}

-- the rate of a guest by its number
abbrev pub rate_at : List GuestSpec → ℕ → ℕ
rate_at gs g = slice_index_or (map (λ x. x.rate) gs) g 0

pub rate_is : (gs : List GuestSpec) (i : ℕ) (g : GuestSpec) → slice_get gs i ≡ Some g → g.rate ≡ rate_at gs i
rate_is [] i g at = cc
rate_is (h ∷ gs) zero g at = ap (λ (x : GuestSpec). x.rate) (sym (some_is at))
rate_is (h ∷ gs) (suc i) g at = rate_is gs i g at

-- a sum begins with its first item
sum_at_first : (home : ℕ → ℕ) (s : ℕ) (f : ℕ → ℕ) (n : ℕ) → sum_at home s f (suc n) ≡ cond (home 0 == s) (f 0) 0 + sum_at (λ k. home (suc k)) s (λ k. f (suc k)) n
sum_at_first home s f zero = omega arith
sum_at_first home s f (suc n) = let below = sum_at_first home s f n in omega (arith, below)

-- sums of the same items
pub sum_at_same : (home : ℕ → ℕ) (s : ℕ) (f h : ℕ → ℕ) (n : ℕ) → ((k : ℕ) → k < n → f k ≡ h k) → sum_at home s f n ≡ sum_at home s h n
sum_at_same home s f h zero e = refl
sum_at_same home s f h (suc n) e =
    let below = sum_at_same home s f h n (λ k lt. e k (omega (arith, lt))) in
    ap (λ t. t + cond (home n == s) (f n) 0) below ∙ ap (λ v. sum_at home s h n + cond (home n == s) v 0) (e n (omega arith))

-- the sum of a filtered list, by its first item
one_more : (t : Bool) (r : ℕ) (x : GuestSpec × ℕ) (ys : List (GuestSpec × ℕ)) → x.0.rate ≡ r →
    sum (map (λ y. y.0.rate) (cond t (x ∷ ys) ys)) ≡ cond t r 0 + sum (map (λ y. y.0.rate) ys)
one_more true r x ys e = sum_by-cons (λ n. n) x.0.rate (map (λ y. y.0.rate) ys) ∙ ap (λ v. v + sum (map (λ y. y.0.rate) ys)) e
one_more false r x ys e = omega arith

need_is : (gs : List GuestSpec) (ss : List ℕ) (s : ℕ) → length ss ≡ length gs → sum_at (slice_index ss) s (rate_at gs) (length gs) ≡ sum (rates_on gs ss s)
need_is [] ss s e = refl
need_is (g ∷ gs) [] s e = absurd (omega (arith, e))
need_is (g ∷ gs) (t ∷ ss) s e =
    let first = sum_at_first (slice_index (t ∷ ss)) s (rate_at (g ∷ gs)) (length gs) in
    let rest = need_is gs ss s (omega (arith, e)) in
    let one = one_more (t == s) g.rate (g, t) (filter (λ x. x.1 == s) (zip gs ss)) refl in
    first ∙ ap (λ v. cond (t == s) g.rate 0 + v) rest ∙ sym one

-- the capacity at a slot's number
capacity_is : (ss : List SlotSpec) (s : ℕ) → slice_index (map capacity_of ss) s ≡ capacity_if (slice_get ss s)
capacity_is [] s = refl
capacity_is (h ∷ ss) zero = refl
capacity_is (h ∷ ss) (suc s) = capacity_is ss s

-- no slot has more capacity than it may
pub capacities_in_range : (ss : List SlotSpec) → All IsSlot ss → (s : ℕ) → slice_index (map capacity_of ss) s ≤ 1000000
capacities_in_range [] all s = omega arith
capacities_in_range (h ∷ ss) all zero = (all 0 h (omega arith)).capacity_high
capacities_in_range (h ∷ ss) all (suc s) = capacities_in_range ss (λ k d lt. all (suc k) d (omega (arith, lt))) s

-- a placement that fits loads no slot with more than a bench lets it have
pub fit_is : (e : Experiment) (slots : List ℕ) (rates : ℕ → ℕ) (n : ℕ) → Fits e slots → length slots ≡ length e.guests.items → n ≡ length e.guests.items →
    ((g : ℕ) → g < n → rates g ≡ rate_at e.guests.items g) →
    (s : ℕ) → s < length e.slots.items → sum_at (slice_index slots) s rates n ≤ slice_index (map capacity_of e.slots.items) s * e.factor
fit_is e slots rates n fits count many each s lt =
    let sums : sum_at (slice_index slots) s rates n ≡ need e slots s =
    sum_at_same (slice_index slots) s rates (rate_at e.guests.items) n each
    ∙ ap (λ k. sum_at (slice_index slots) s (rate_at e.guests.items) k) many
    ∙ need_is e.guests.items slots s count in
    let cap : slice_index (map capacity_of e.slots.items) s * e.factor ≡ capacity e s * e.factor = ap (λ v. v * e.factor) (capacity_is e.slots.items s) in
    omega (arith, sums, cap, fits s lt)
