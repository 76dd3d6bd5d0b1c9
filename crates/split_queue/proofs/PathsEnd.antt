-- Every path comes to its end within a table's 64 places, and the ranges of a chain lie in RAM.
use Rattle.std.proofs.Common.{◌≡◌, ℕ, zero, suc, ◌+◌, ◌<◌, ◌≤◌, Bool, true, false, ◌||◌, List, [], set, replicate, get_or, refl, sym, ap, ◌∙◌, subst, arith, add-one, Option, Some, None, inl, inr, ◌⊎◌}
use Rattle.std.proofs.lemmas.Bool.{cases_Bool, cases_eq, cond-true, cond-false, both_ways}
use Rattle.tb_base.specs.declared.why.Why.{Why}
use Rattle.tb_base.specs.declared.why.Why.TheVariants.{Loop}
use Rattle.split_queue.specs.declared.descriptor.Descriptor.{Descriptor}
use Rattle.split_queue.specs.Chains.{ChainOf, chain_of}
use Rattle.split_queue.specs.Rings.{descriptor_at}
use Rattle.split_queue.specs.Paths.{Start, place, nth, is_among, fault_at, fault_of, ends_at, first_from, end}
use Rattle.split_queue.specs.Walks.{added}
use Rattle.split_queue.proofs.Along.{Along}
use Rattle.split_queue.proofs.AlongLemmas.{along_start, along_next, along_old, along_wrong, along_count, fault_met, ends_by_fault, goes_or_ends}

pub record Reached (s : Start) (n : ℕ) : Type 0 where
  pub p : ℕ
  pub met : List Bool
  pub after : Bool
  pub c : ChainOf
  pub along : Along s n p met after c

pub none_there : (s : Start) (n : ℕ) (o : Option Why) → fault_at s n ≡ o → ends_at s n ≡ false → o ≡ None
none_there s n None e f = refl
none_there s n (Some w) e f = absurd (both_ways (ends_at s n) f (ends_by_fault s n w e))

pub new_there : (s : Start) (n : ℕ) (b : Bool) → is_among s n (place s n) ≡ b → ends_at s n ≡ false → b ≡ false
new_there s n true e f = absurd (both_ways (ends_at s n) f (ends_by_fault s n Loop (fault_met s n e)))
new_there s n false e f = refl

pub goes_there : (s : Start) (n : ℕ) (b : Bool) → (nth s n).goes_on ≡ b → fault_at s n ≡ None → ends_at s n ≡ false → b ≡ true
goes_there s n true e g f = refl
goes_there s n false e g f = absurd (both_ways (ends_at s n) f (goes_or_ends s n false g e))

pub reach : (s : Start) (n : ℕ) → s.size ≤ 64 → s.head < s.size → ((k : ℕ) → k < n → ends_at s k ≡ false) → Reached s n
reach s zero z h low = record { p = s.head; met = replicate 64 false; after = false; c = chain_of s.head [] []; along = along_start s z h }
reach s (suc n) z h low =
    let r : Reached s n = reach s n z h (λ k x. low k (omega arith)) in
    let f : ends_at s n ≡ false = low n (omega arith) in
    let old = along_old s n r.p r.met r.after r.c (get_or r.met r.p false) r.along refl in
    let new : get_or r.met r.p false ≡ false = new_there s n (get_or r.met r.p false) old f in
    let none : fault_at s n ≡ None = none_there s n (fault_at s n) refl f in
    let g : fault_of s.ram s.size r.after (descriptor_at s.ram s.table r.p) ≡ None = sym (along_wrong s n r.p r.met r.after r.c r.along new) ∙ none in
    let o : (descriptor_at s.ram s.table r.p).goes_on ≡ true = ap (λ (q : ℕ). (descriptor_at s.ram s.table q).goes_on) r.along.at ∙ goes_there s n (nth s n).goes_on refl none f in
    let d : Descriptor = descriptor_at s.ram s.table r.p in
    record { p = d.next; met = set r.met r.p true; after = r.after || d.writable; c = added r.c d; along = subst (λ (k : ℕ). Along s k d.next (set r.met r.p true) (r.after || d.writable) (added r.c d)) (add-one n) (along_next s n r.p r.met r.after r.c r.along new g o) }

-- the first place where a test holds, or none holds
first_says : (test : ℕ → Bool) (k m : ℕ) → (test (first_from test k m) ≡ true) ⊎ ((first_from test k m ≡ k + m) × ((j : ℕ) → k ≤ j → j < k + m → test j ≡ false))
first_says test k zero = inr (omega arith, λ j a b. absurd (omega arith))
first_says test k (suc m) = elim (cases_Bool (test k)) [
  | inl t ↦ inl (ap test (cond-true (test k) k (first_from test (k + 1) m) t) ∙ t)
  | inr t ↦ (let e : first_from test k (suc m) ≡ first_from test (k + 1) m = cond-false (test k) k (first_from test (k + 1) m) t in
      elim (first_says test (k + 1) m) [
        | inl y ↦ inl (ap test e ∙ y)
        | inr y ↦ inr (omega (arith, y.0), λ j a b. elim (cases_eq j k) [ inl q ↦ ap test q ∙ t | inr q ↦ y.1 j (omega arith) (omega arith) ])
      ])
]

pub first_before : (test : ℕ → Bool) (k m j : ℕ) → k ≤ j → j < first_from test k m → test j ≡ false
first_before test k zero j a b = absurd (omega arith)
first_before test k (suc m) j a b = elim (cases_Bool (test k)) [
  | inl t ↦ (let e : first_from test k (suc m) ≡ k = cond-true (test k) k (first_from test (k + 1) m) t in absurd (omega arith))
  | inr t ↦ (let e : first_from test k (suc m) ≡ first_from test (k + 1) m = cond-false (test k) k (first_from test (k + 1) m) t in
      elim (cases_eq j k) [ inl q ↦ ap test q ∙ t | inr q ↦ first_before test (k + 1) m j (omega arith) (omega arith) ])
]

pub ends_there : (s : Start) → s.size ≤ 64 → s.head < s.size → ends_at s (end s) ≡ true
unfolding end
ends_there s z h = elim (first_says (ends_at s) 0 64) [
  | inl t ↦ t
  | inr y ↦ elim (cases_Bool (ends_at s 64)) [
    | inl t ↦ ap (ends_at s) (let q : first_from (ends_at s) 0 64 ≡ 64 = omega (arith, y.0) in q) ∙ t
    | inr f ↦ (let r : Reached s 65 = reach s 65 z h (λ k x. elim (cases_eq k 64) [ inl q ↦ ap (ends_at s) q ∙ f | inr q ↦ y.1 k (omega arith) (omega arith) ]) in
        absurd (omega (arith, along_count s 65 r.p r.met r.after r.c r.along)))
  ]
]

pub none_before : (s : Start) (k : ℕ) → k < end s → ends_at s k ≡ false
unfolding end
none_before s k h = first_before (ends_at s) 0 64 k (omega arith) h
