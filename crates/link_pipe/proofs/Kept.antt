-- What every pipe keeps: the order of its frames, and an end that is near.
use Rattle.std.proofs.Common.{◌≡◌, ℕ, suc, ◌+◌, ◌*◌, ◌/◌, ◌-◌, ◌≤◌, ◌<◌, ◌^◌, max, List, [], ◌∷◌, ◌++◌, length, refl, ap, arith, true, false, Bool, cond, eqb, subst, slice_get, Some, None}
use Rattle.std.proofs.lemmas.List.{length_push}
use Rattle.std.proofs.lemmas.List.Elements.{All-head, All-nil, All-cons, All-weaker}
use Rattle.std.proofs.lemmas.Bool.{eqb-true, eqb-false, ne_eqb, le-leb, lt-leb}
use Rattle.std.proofs.Math.Nat.{mul-le-mul_left, mul_comm, le-div_iff_mul-le, div-mul-le_self, div-lt_iff_lt-mul}
use Rattle.link_pipe.specs.declared.pipe_params.PipeParams.{PipeParams}
use Rattle.link_pipe.specs.Offers.{Leaving, leaving}
use Rattle.link_pipe.specs.Piped.{piped, NoneBefore, InOrder, IsNear, Sound, front_in, rest_in, offered, ended}

mul_mono : (b m n : ℕ) → m ≤ n → m * b ≤ n * b
mul_mono b m n h = rw (mul_comm m b, mul_comm n b) (mul-le-mul_left b h)

pub order_later : (b m n e : ℕ) (fs : List Leaving) → NoneBefore n fs → InOrder b m e fs → InOrder b n e fs
order_later b m n e [] a o = tt
order_later b m n e (f ∷ fs) a o = (All-head (λ (x : Leaving). n ≤ x.leave) f fs a, o.1, o.2)

pub order_since : (b m n e : ℕ) (fs : List Leaving) → m ≤ n → InOrder b n e fs → InOrder b m e fs
order_since b m n e [] a o = tt
order_since b m n e (f ∷ fs) a o = (omega (arith, o.0), o.1, o.2)

pub near_later : (b m n e : ℕ) (fs : List Leaving) → m ≤ n → IsNear b m e fs → IsNear b n e fs
near_later b m n e [] a h = omega (arith, mul_mono b m n a)
near_later b m n e (f ∷ fs) a h = (omega (arith, mul_mono b m n a, h.0), near_later b (max m (f.leave + 1)) (max n (f.leave + 1)) e fs (omega arith) h.1)

pub near_bound : (b m e : ℕ) (fs : List Leaving) → IsNear b m e fs → e ≤ m * b + 1514 * length fs
near_bound b m e [] h = omega arith
near_bound b m e (f ∷ fs) h = h.0

pub order_push : (b m e c l : ℕ) (f : List ℕ) (fs : List Leaving) → InOrder b m e fs → e ≤ c → l * b < c → m ≤ l → ((a : ℕ) → a * b < c → a ≤ l) → InOrder b m c (fs ++ leaving l f ∷ [])
order_push b m e c l f [] o up at from most = (from, at, tt)
order_push b m e c l f (g ∷ gs) o up at from most = (o.0, omega (arith, o.1), order_push b g.leave e c l f gs o.2 up at (most g.leave (omega (arith, o.1))) most)

pub near_push : (b m n e c l : ℕ) (f : List ℕ) (fs : List Leaving) → n ≤ m → c ≤ max (n * b) e + 1514 → c ≤ (l + 1) * b → IsNear b m e fs → IsNear b m c (fs ++ leaving l f ∷ [])
near_push b m n e c l f [] a top at h =
    let k = mul_mono b n m a in
    let j = mul_mono b (l + 1) (max m (l + 1)) (omega arith) in
    (omega arith, omega arith)
near_push b m n e c l f (g ∷ gs) a top at h =
    let k = mul_mono b n m a in
    let s = length_push gs (leaving l f) in
    (omega (arith, h.0), near_push b (max m (g.leave + 1)) n e c l f gs (omega arith) top at h.1)

-- the frames of tick n are taken from the front
pub near_rest : (b n e : ℕ) (fs : List Leaving) → IsNear b (n + 1) e fs → IsNear b (n + 1) e (rest_in n fs)
near_rest b n e [] h = h
near_rest b n e (f ∷ fs) h =
    elim (eqb f.leave n) as (λ t. eqb f.leave n ≡ t → IsNear b (n + 1) e (cond t (rest_in n fs) (f ∷ fs))) [
      | true ↦ λ q. near_rest b n e fs (let i : f.leave ≡ n = eqb-true f.leave n q in let j : max (n + 1) (f.leave + 1) ≡ n + 1 = omega arith in subst (λ (m : ℕ). IsNear b m e fs) j h.1)
      | false ↦ λ _. h
    ] refl

pub order_rest : (b n e : ℕ) (fs : List Leaving) → InOrder b n e fs → InOrder b (n + 1) e (rest_in n fs)
order_rest b n e [] o = tt
order_rest b n e (f ∷ fs) o =
    elim (eqb f.leave n) as (λ t. eqb f.leave n ≡ t → InOrder b (n + 1) e (cond t (rest_in n fs) (f ∷ fs))) [
      | true ↦ λ q. order_rest b n e fs (order_since b n f.leave e fs (omega (arith, eqb-true f.leave n q)) o.2)
      | false ↦ λ q. (let i : f.leave ≡ n → ⊥ = eqb-false f.leave n q in omega (arith, o.0), o.1, o.2)
    ] refl

pub length_rest : (n : ℕ) (fs : List Leaving) → length (rest_in n fs) ≤ length fs
length_rest n [] = omega arith
length_rest n (f ∷ fs) =
    elim (eqb f.leave n) as (λ t. length (cond t (rest_in n fs) (f ∷ fs)) ≤ suc (length fs)) [ true ↦ omega (arith, length_rest n fs) | false ↦ omega arith ]

pub fits_put : (p : PipeParams) (e m n : ℕ) (fs : List Leaving) → Sound (piped p e fs m) → m ≤ n → n ≤ 2 ^ 40 → max (n * p.bandwidth) e + 1514 < 2 ^ 63
fits_put p e m n fs s l h =
    let k = near_bound p.bandwidth m e fs s.near in
    let i : p.bandwidth ≤ 1000000 = s.limits.1 in
    let t = mul_mono p.bandwidth m n l in
    let u = mul_mono p.bandwidth n (2 ^ 40) h in
    let v = mul-le-mul_left (2 ^ 40) i in
    let w : length fs ≤ p.queue = s.fits in
    let x : p.queue ≤ 1000 = s.limits.3 in
    omega arith

pub sound_later : (p : PipeParams) (e m n : ℕ) (fs : List Leaving) → Sound (piped p e fs m) → m ≤ n → NoneBefore n fs → Sound (piped p e fs n)
sound_later p e m n fs s l a = record { limits = s.limits; fits = s.fits; in_order = order_later p.bandwidth m n e fs a s.in_order; near = near_later p.bandwidth m n e fs l s.near }

pub sound_put : (p : PipeParams) (e m n c k : ℕ) (f : List ℕ) (fs : List Leaving) → Sound (piped p e fs m) → m ≤ n → NoneBefore n fs → length fs < p.queue → c ≡ max (n * p.bandwidth) e → 14 ≤ k → k ≤ 1514 → Sound (piped p (c + k) (fs ++ leaving ((c + k - 1) / p.bandwidth) f ∷ []) n)
sound_put p e m n c k f fs s l a room ec low high =
    let pos : 0 < p.bandwidth = s.limits.0 in
    let d = div-mul-le_self (c + k - 1) p.bandwidth in
    let up : (x : ℕ) → x * p.bandwidth < c + k → x ≤ (c + k - 1) / p.bandwidth = λ x h. (le-div_iff_mul-le {k = p.bandwidth} {x = x} {y = c + k - 1} pos).1 (omega arith) in
    let over : c + k - 1 < ((c + k - 1) / p.bandwidth + 1) * p.bandwidth = (div-lt_iff_lt-mul {k = p.bandwidth} {x = c + k - 1} {y = (c + k - 1) / p.bandwidth + 1} pos).0 (omega arith) in
    record {
      limits = s.limits;
      fits = omega (arith, length_push fs (leaving ((c + k - 1) / p.bandwidth) f));
      in_order = order_push p.bandwidth n e (c + k) ((c + k - 1) / p.bandwidth) f fs (order_later p.bandwidth m n e fs a s.in_order) (omega arith) (omega arith) (up n (omega arith)) up;
      near = near_push p.bandwidth n n e (c + k) ((c + k - 1) / p.bandwidth) f fs (omega arith) (omega arith) (omega arith) (near_later p.bandwidth m n e fs l s.near);
    }

pub offered_put : (p : PipeParams) (e m n c k : ℕ) (f : List ℕ) (fs : List Leaving) → length fs < p.queue → c ≡ max (n * p.bandwidth) e → k ≡ length f → piped p (c + k) (fs ++ leaving ((c + k - 1) / p.bandwidth) f ∷ []) n ≡ offered (piped p e fs m) n f
unfolding offered
offered_put p e m n c k f fs room ec ek = rw (lt-leb p.queue (length fs) room) cc

pub offered_full : (p : PipeParams) (e m n : ℕ) (f : List ℕ) (fs : List Leaving) → p.queue ≤ length fs → piped p e fs n ≡ offered (piped p e fs m) n f
unfolding offered
offered_full p e m n f fs full = rw (le-leb p.queue (length fs) full) refl

pub sound_ended : (p : PipeParams) (e m n : ℕ) (fs : List Leaving) → Sound (piped p e fs m) → m ≤ n → NoneBefore n fs → Sound (piped p e (rest_in n fs) (n + 1))
sound_ended p e m n fs s l a = record {
  limits = s.limits;
  fits = omega (arith, length_rest n fs, s.fits);
  in_order = order_rest p.bandwidth n e fs (order_later p.bandwidth m n e fs a s.in_order);
  near = near_rest p.bandwidth n e fs (near_later p.bandwidth m (n + 1) e fs (omega arith) s.near);
}

pub none_at_front : (n : ℕ) (fs : List Leaving) → None ≡ slice_get fs 0 → (front_in n fs ≡ []) × (rest_in n fs ≡ fs)
none_at_front n [] e = (refl, refl)
none_at_front n (g ∷ gs) e = absurd cc

pub other_at_front : (n : ℕ) (fs : List Leaving) (f : Leaving) → Some f ≡ slice_get fs 0 → (f.leave ≡ n → ⊥) → (front_in n fs ≡ []) × (rest_in n fs ≡ fs)
other_at_front n [] f e ne = absurd cc
other_at_front n (g ∷ gs) f e ne =
    let same : f ≡ g = cc in
    let no : eqb g.leave n ≡ false = subst (λ (x : Leaving). eqb x.leave n ≡ false) same (ne_eqb f.leave n ne) in
    (ap (λ (t : Bool). cond t (g.frame ∷ front_in n gs) []) no, ap (λ (t : Bool). cond t (rest_in n gs) (g ∷ gs)) no)

pub ended_is : (p : PipeParams) (e m n : ℕ) (fs : List Leaving) → piped p e (rest_in n fs) (n + 1) ≡ ended (piped p e fs m) n
unfolding ended
ended_is p e m n fs = refl

pub order_none : (b m e : ℕ) (fs : List Leaving) → InOrder b m e fs → NoneBefore m fs
order_none b m e [] o = All-nil (λ (x : Leaving). m ≤ x.leave)
order_none b m e (f ∷ fs) o = All-cons (λ (x : Leaving). m ≤ x.leave) f fs o.0 (All-weaker (λ (x : Leaving). f.leave ≤ x.leave) (λ (x : Leaving). m ≤ x.leave) (λ x h. omega (arith, o.0)) fs (order_none b f.leave e fs o.2))

-- none leaves before the first of them
pub order_first : (b m e : ℕ) (fs : List Leaving) (f : Leaving) → InOrder b m e fs → Some f ≡ slice_get fs 0 → NoneBefore f.leave fs
order_first b m e [] f o is = absurd cc
order_first b m e (g ∷ gs) f o is =
    let same : g ≡ f = cc in
    subst (λ (x : Leaving). NoneBefore x.leave (g ∷ gs)) same (order_none b g.leave e (g ∷ gs) (omega arith, o.1, o.2))
