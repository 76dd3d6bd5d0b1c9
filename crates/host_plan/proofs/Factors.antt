-- The least factor, slot by slot, and the first slot that does not fit.
use Rattle.std.proofs.Common.{◌≡◌, ℕ, suc, ◌<◌, ◌≤◌, ◌+◌, ◌*◌, ◌-◌, Bool, true, false, cond, List, ◌∷◌, length, Some, None, option_map, inl, inr, ◌⊎◌, refl, sym, ap, ◌∙◌, arith, subst}
use Rattle.std.proofs.lemmas.Bool.{cases_lt, lt-ltb, le-ltb}
use Rattle.std.proofs.lemmas.Grind.{div_ceil_times}
use Rattle.std.proofs.lemmas.Nat.{mul-le}
use Rattle.std.proofs.Math.Nat.{mul_comm}
use Rattle.std.specs.Int.{div_ceil}
use Rattle.std.specs.List.{find, range_with_len}
use Rattle.exp_file.specs.declared.experiment.Experiment.{Experiment}
use Rattle.host_plan.specs.declared.least.Least.{Least}
use Rattle.host_plan.specs.declared.overload.Overload.{Overload}
use Rattle.host_plan.specs.Fits.{need, have, capacity, IsLeast, is_over, overload_at, first_overload}

range_more : (s n m : ℕ) → n - s ≡ suc m → n - (s + 1) ≡ m → range_with_len s (n - s) ≡ s ∷ range_with_len (s + 1) (n - (s + 1))
range_more s n m e f = ap (range_with_len s) e ∙ ap (λ z. s ∷ range_with_len (s + 1) z) (sym f)

pub find_step : (p : ℕ → Bool) (s n : ℕ) → s < n → find p (range_with_len s (n - s)) ≡ cond (p s) (Some s) (find p (range_with_len (s + 1) (n - (s + 1))))
find_step p s n h = ap (find p) (range_more s n (n - (s + 1)) (omega arith) refl)

pub find_end : (p : ℕ → Bool) (s n : ℕ) → n ≤ s → find p (range_with_len s (n - s)) ≡ None
find_end p s n h =
    let none : n - s ≡ 0 = omega arith in
    ap (λ z. find p (range_with_len s z)) none

-- the least factor of the slots below one
pub record IsLeastBefore (e : Experiment) (p : List ℕ) (i : ℕ) (l : Least) : Type 0 where
  pub some : 1 ≤ l.factor
  pub fits : (s : ℕ) → s < i → need e p s ≤ capacity e s * l.factor
  pub slot : l.slot < i + 1
  pub one : l.factor ≡ 1 → l.slot ≡ 0
  pub tight : 1 < l.factor → (l.slot < i) × (capacity e l.slot * (l.factor - 1) < need e p l.slot)
  pub before : (s : ℕ) → s < l.slot → need e p s ≤ capacity e s * (l.factor - 1)

pub lt_or_is : (s i : ℕ) → s < i + 1 → (s < i) ⊎ (s ≡ i)
lt_or_is s i h = elim (cases_lt s i) as (λ _. (s < i) ⊎ (s ≡ i)) [
  | inl low ↦ inl low
  | inr high ↦ inr (omega arith)
]

mul_up : (a m n : ℕ) → m ≤ n → a * m ≤ a * n
mul_up a m n h = mul-le a m a n (omega arith) h

pub least_none : (e : Experiment) (p : List ℕ) → IsLeastBefore e p 0 (record { factor = 1; slot = 0 })
least_none e p = record {
  some = omega arith;
  fits = λ s h. absurd (omega arith);
  slot = omega arith;
  one = λ h. refl;
  tight = λ h. absurd (omega arith);
  before = λ s h. absurd (omega arith);
}

-- a slot that needs a greater factor
pub least_raised : (e : Experiment) (p : List ℕ) (i f : ℕ) (l : Least) → IsLeastBefore e p i l → l.factor < f → need e p i ≤ capacity e i * f → capacity e i * (f - 1) < need e p i
    → IsLeastBefore e p (i + 1) (record { factor = f; slot = i })
least_raised e p i f l so more fits tight = record {
  some = omega arith;
  fits = λ s h. elim (lt_or_is s i h) as (λ _. need e p s ≤ capacity e s * f) [
    | inl low ↦ let old = so.fits s low in let up = mul_up (capacity e s) l.factor f (omega arith) in omega (arith, old, up)
    | inr same ↦ subst (λ z. need e p z ≤ capacity e z * f) (sym same) fits
  ];
  slot = omega arith;
  one = λ h. absurd (let some = so.some in omega (arith, some, more, h));
  tight = λ h. (omega arith, tight);
  before = λ s h. let old = so.fits s h in let up = mul_up (capacity e s) l.factor (f - 1) (omega arith) in omega (arith, old, up);
}

-- a slot that needs no greater one
pub least_kept : (e : Experiment) (p : List ℕ) (i f : ℕ) (l : Least) → IsLeastBefore e p i l → f ≤ l.factor → need e p i ≤ capacity e i * f → IsLeastBefore e p (i + 1) l
least_kept e p i f l so low fits = record {
  some = so.some;
  fits = λ s h. elim (lt_or_is s i h) as (λ _. need e p s ≤ capacity e s * l.factor) [
    | inl under ↦ so.fits s under
    | inr same ↦ let up = mul_up (capacity e i) f l.factor low in subst (λ z. need e p z ≤ capacity e z * l.factor) (sym same) (omega (arith, fits, up))
  ];
  slot = let old = so.slot in omega (arith, old);
  one = so.one;
  tight = λ h. let old = so.tight h in (let under = old.0 in omega (arith, under), old.1);
  before = so.before;
}

pub least_all : (e : Experiment) (p : List ℕ) (n : ℕ) (l : Least) → 1 ≤ n → n ≡ length e.slots.items → IsLeastBefore e p n l → IsLeast e p l
least_all e p n l some all so = record {
  some = so.some;
  fits = λ s h. so.fits s (omega (arith, all, h));
  least = λ f one fits. elim (cases_lt f l.factor) as (λ _. l.factor ≤ f) [
    | inr high ↦ high
    | inl low ↦ absurd (
        let tight = so.tight (omega (arith, one, low)) in
        let fit = fits l.slot (let under = tight.0 in omega (arith, under, all)) in
        let up = mul_up (capacity e l.slot) f (l.factor - 1) (omega (arith, low)) in
        let over = tight.1 in
        omega (arith, fit, up, over))
  ];
  slot = elim (cases_lt 1 l.factor) as (λ _. l.slot < length e.slots.items) [
    | inl high ↦ let under = (so.tight high).0 in omega (arith, under, all)
    | inr low ↦ let first = so.one (let high = so.some in omega (arith, high, low)) in omega (arith, first, some, all)
  ];
  one = so.one;
  tight = λ h. (so.tight h).1;
  before = so.before;
}

suc_mul : (m y : ℕ) → (m + 1) * y ≡ m * y + y
suc_mul m y = grind arith

pub ceil_fits : (x y : ℕ) → 0 < y → x ≤ y * div_ceil x y
ceil_fits x y h = let times = div_ceil_times x y h in let flip = mul_comm y (div_ceil x y) in omega (arith, times.0, flip)

pub ceil_tight : (x y f : ℕ) → 0 < y → f ≡ div_ceil x y → 1 < f → y * (f - 1) < x
ceil_tight x y f h e some =
    let times = div_ceil_times x y h in
    let whole : f * y < x + y = subst (λ z. z * y < x + y) (sym e) times.1 in
    let back : f ≡ (f - 1) + 1 = omega (arith, some) in
    let split : f * y ≡ (f - 1) * y + y = ap (λ z. z * y) back ∙ suc_mul (f - 1) y in
    let flip = mul_comm y (f - 1) in
    omega (arith, whole, split, flip)

pub over_found : (e : Experiment) (p : List ℕ) (o : Overload) → o.slot < length e.slots.items
    → find (is_over e p) (range_with_len o.slot (length e.slots.items - o.slot)) ≡ find (is_over e p) (range_with_len 0 (length e.slots.items))
    → o.need ≡ need e p o.slot → o.have ≡ have e o.slot → o.have < o.need → first_overload e p ≡ Some o
over_found e p o h rest n v over =
    let yes : is_over e p o.slot ≡ true = lt-ltb (have e o.slot) (need e p o.slot) (omega (arith, n, v, over)) in
    ap (option_map (overload_at e p)) (sym rest ∙ find_step (is_over e p) o.slot (length e.slots.items) h ∙ ap (λ t. cond t (Some o.slot) (find (is_over e p) (range_with_len (o.slot + 1) (length e.slots.items - (o.slot + 1))))) yes)
    ∙ ap Some (ap (λ z. record { slot = o.slot; need = z; have = have e o.slot }) (sym n) ∙ ap (λ z. record { slot = o.slot; need = o.need; have = z }) (sym v))

pub over_next : (e : Experiment) (p : List ℕ) (s : ℕ) → s < length e.slots.items
    → find (is_over e p) (range_with_len s (length e.slots.items - s)) ≡ find (is_over e p) (range_with_len 0 (length e.slots.items))
    → need e p s ≤ have e s → find (is_over e p) (range_with_len (s + 1) (length e.slots.items - (s + 1))) ≡ find (is_over e p) (range_with_len 0 (length e.slots.items))
over_next e p s h rest fits =
    let no : is_over e p s ≡ false = le-ltb (have e s) (need e p s) fits in
    sym (ap (λ t. cond t (Some s) (find (is_over e p) (range_with_len (s + 1) (length e.slots.items - (s + 1))))) no) ∙ sym (find_step (is_over e p) s (length e.slots.items) h) ∙ rest

pub none_over : (e : Experiment) (p : List ℕ) (s : ℕ) → length e.slots.items ≤ s
    → find (is_over e p) (range_with_len s (length e.slots.items - s)) ≡ find (is_over e p) (range_with_len 0 (length e.slots.items)) → first_overload e p ≡ None
none_over e p s h rest = ap (option_map (overload_at e p)) (sym rest ∙ find_end (is_over e p) s (length e.slots.items) h)

pub fits_more : (e : Experiment) (p : List ℕ) (i : ℕ) → ((s : ℕ) → s < i → need e p s ≤ have e s) → need e p i ≤ have e i → (s : ℕ) → s < i + 1 → need e p s ≤ have e s
fits_more e p i below here s h = elim (lt_or_is s i h) as (λ _. need e p s ≤ have e s) [
  | inl low ↦ below s low
  | inr same ↦ subst (λ z. need e p z ≤ have e z) (sym same) here
]

-- the factor that a slot needs, and what it makes of the least one so far
ceil_of : (n y m k : ℕ) → n ≡ m → y ≡ k → div_ceil n y ≡ div_ceil m k
ceil_of n y m k a b = ap (λ z. div_ceil z y) a ∙ ap (div_ceil m) b

pub raised_step : (e : Experiment) (p : List ℕ) (i f n y : ℕ) (l new : Least) → IsLeastBefore e p i l → f ≡ div_ceil n y → n ≡ need e p i → y ≡ capacity e i → 1 ≤ y
    → l.factor < f → new ≡ record { factor = f; slot = i } → IsLeastBefore e p (i + 1) new
raised_step e p i f n y l new so is a b some more taken =
    let low : 0 < capacity e i = omega (arith, some, b) in
    let whole : f ≡ div_ceil (need e p i) (capacity e i) = is ∙ ceil_of n y (need e p i) (capacity e i) a b in
    let above : 1 < f = let one = so.some in omega (arith, one, more) in
    subst (λ z. IsLeastBefore e p (i + 1) z) (sym taken) (least_raised e p i f l so more
    (subst (λ z. need e p i ≤ capacity e i * z) (sym whole) (ceil_fits (need e p i) (capacity e i) low))
    (ceil_tight (need e p i) (capacity e i) f low whole above))

pub kept_step : (e : Experiment) (p : List ℕ) (i f n y : ℕ) (l new : Least) → IsLeastBefore e p i l → f ≡ div_ceil n y → n ≡ need e p i → y ≡ capacity e i → 1 ≤ y
    → f ≤ l.factor → new ≡ l → IsLeastBefore e p (i + 1) new
kept_step e p i f n y l new so is a b some low kept =
    let positive : 0 < capacity e i = omega (arith, some, b) in
    let whole : f ≡ div_ceil (need e p i) (capacity e i) = is ∙ ceil_of n y (need e p i) (capacity e i) a b in
    subst (λ z. IsLeastBefore e p (i + 1) z) (sym kept) (least_kept e p i f l so low
    (subst (λ z. need e p i ≤ capacity e i * z) (sym whole) (ceil_fits (need e p i) (capacity e i) positive)))
