-- Sums of rates, one guest at a time.
use Rattle.std.proofs.Common.{◌≡◌, ◌==◌, ℕ, ◌<◌, ◌≤◌, ◌+◌, ◌*◌, Bool, true, false, cond, All, List, [], ◌∷◌, length, map, drop, get_or, set, refl, ap, ◌∙◌, arith}
use Rattle.std.proofs.lemmas.List.{drop_more}
use Rattle.std.proofs.lemmas.List.Sums.{sum_by-cons, sum_by-set, sum_by-le}
use Rattle.std.specs.List.{sum, sum_by, filter, zip}
use Rattle.exp_file.specs.declared.guest_spec.GuestSpec.{GuestSpec}
use Rattle.host_plan.specs.declared.assignment.Assignment.{Assignment}
use Rattle.host_plan.specs.Fits.{rates_on}
use Rattle.host_plan.specs.Placing.{is_at, need_so_far}

-- the sum of a filtered list, one item at a time
at_test : {X : Type 0} (t : Bool) (f : X → ℕ) (x : X) (ys : List X) → sum (map f (cond t (x ∷ ys) ys)) ≡ cond t (f x) 0 + sum (map f ys)
at_test true f x ys = sum_by-cons (λ n. n) (f x) (map f ys)
at_test false f x ys = omega arith

one_more : {X : Type 0} (p : X → Bool) (f : X → ℕ) (x : X) (xs : List X) → sum (map f (filter p (x ∷ xs))) ≡ cond (p x) (f x) 0 + sum (map f (filter p xs))
one_more p f x xs = at_test (p x) f x (filter p xs)

-- the sum of a filtered list as a sum of all
pub filtered : {X : Type 0} (p : X → Bool) (f : X → ℕ) (xs : List X) → sum (map f (filter p xs)) ≡ sum_by (λ x. cond (p x) (f x) 0) xs
filtered p f [] = refl
filtered p f (x ∷ xs) =
    let more = one_more p f x xs in
    let rest = filtered p f xs in
    let all = sum_by-cons (λ y. cond (p y) (f y) 0) x xs in
    omega (arith, more, rest, all)

-- what a guest takes of a slot
abbrev pub taken : ℕ → Assignment → ℕ
taken s x = cond (is_at s x.home) x.rate 0

pub need-taken : (assignments : List Assignment) (s : ℕ) → need_so_far assignments s ≡ sum_by (taken s) assignments
need-taken assignments s = filtered (λ (x : Assignment). is_at s x.home) (λ (x : Assignment). x.rate) assignments

pub assignments_step : (assignments : List Assignment) (i s : ℕ) (d : Assignment) → i < length assignments → need_so_far (drop i assignments) s ≡ taken s (get_or assignments i d) + need_so_far (drop (i + 1) assignments) s
assignments_step assignments i s d h =
    ap (λ (z : List Assignment). need_so_far z s) (drop_more assignments i d h) ∙ one_more (λ (x : Assignment). is_at s x.home) (λ (x : Assignment). x.rate) (get_or assignments i d) (drop (i + 1) assignments)

pub guests_step : (gs : List GuestSpec) (p : List ℕ) (i s : ℕ) (g : GuestSpec) (h : ℕ) → i < length gs → i < length p
    → sum (rates_on (drop i gs) (drop i p) s) ≡ cond (get_or p i h == s) (get_or gs i g).rate 0 + sum (rates_on (drop (i + 1) gs) (drop (i + 1) p) s)
guests_step gs p i s g h a b =
    ap (λ (z : List GuestSpec). sum (rates_on z (drop i p) s)) (drop_more gs i g a)
    ∙ ap (λ (z : List ℕ). sum (rates_on (get_or gs i g ∷ drop (i + 1) gs) z s)) (drop_more p i h b)
    ∙ one_more (λ (x : GuestSpec × ℕ). x.1 == s) (λ (x : GuestSpec × ℕ). x.0.rate) (get_or gs i g, get_or p i h) (zip (drop (i + 1) gs) (drop (i + 1) p))

cond-le : (t : Bool) (n : ℕ) → n ≤ 100000 → cond t n 0 ≤ 100000
cond-le true n h = h
cond-le false n h = omega arith

taken-le : (s : ℕ) (x : Assignment) → x.rate ≤ 100000 → taken s x ≤ 100000
taken-le s x h = cond-le (is_at s x.home) x.rate h

pub need-le : (assignments : List Assignment) (s : ℕ) → length assignments ≤ 32 → All (λ x. x.rate ≤ 100000) assignments → need_so_far assignments s ≤ 3200000
need-le assignments s few rates =
    let all : sum_by (taken s) assignments ≤ length assignments * 100000 = sum_by-le (taken s) 100000 assignments (λ k d h. taken-le s (get_or assignments k d) (rates k d h)) in
    omega (arith, all, need-taken assignments s)

-- one guest more on a slot
pub need-set : (assignments : List Assignment) (i s : ℕ) (y d : Assignment) → i < length assignments → need_so_far (set assignments i y) s + taken s (get_or assignments i d) ≡ need_so_far assignments s + taken s y
need-set assignments i s y d h =
    let all = sum_by-set (taken s) assignments i y d h in
    omega (arith, all, need-taken assignments s, need-taken (set assignments i y) s)
