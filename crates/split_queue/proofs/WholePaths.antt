-- What a walk answers is what whole paths say.
use Rattle.std.proofs.Common.{◌≡◌, ℕ, zero, suc, ◌-◌, ◌<◌, ◌≤◌, Bool, true, false, not, ◌&&◌, ◌||◌, nat_le, cond, eqb, List, [], ◌∷◌, ◌++◌, length, take, get_or, refl, sym, ap, ◌∙◌, arith, add-one, Option, Some, None, Ok, Err, inl, inr}
use Rattle.std.proofs.lemmas.List.{length_push, get_or_push, get_or_append_left, map_push, take_all, take-append-le, ext_get_or}
use Rattle.std.proofs.lemmas.Bool.{cases_eq, cases_Bool, ne_eqb, eqb-true, or_parts, or_cases, eqb-false, both_ways}
use Rattle.tb_base.specs.declared.why.Why.{Why}
use Rattle.tb_base.specs.declared.why.Why.TheVariants.{Loop, Indirect, RangeOutside, OrderWrong, NextRange}
use Rattle.guest_ram.specs.Bytes.{holds_range}
use Rattle.split_queue.specs.declared.descriptor.Descriptor.{Descriptor}
use Rattle.split_queue.specs.Chains.{ChainOf, chain_of}
use Rattle.split_queue.specs.Rings.{descriptor_at}
use Rattle.split_queue.specs.Paths.{Start, place, nth, path, is_among, has_writable, fault_of, fault_at, ends_at, end, readable_of, writable_of, outcome, walked}
use Rattle.split_queue.specs.Whole.{descriptors, at, IsPath, IsChainOf, BreaksAt}
use Rattle.split_queue.proofs.AlongLemmas.{along_count, end_is, walked_at, fault_met, fault_new, ends_by_fault, goes_or_ends}
use Rattle.split_queue.proofs.PathsEnd.{Reached, reach, none_there, goes_there, none_before, ends_there}
use Rattle.split_queue.proofs.PathsIn.{outcome_ok, none_new}

abbrev places : Start → ℕ → List ℕ
places s zero = []
places s (suc n) = places s n ++ place s n ∷ []

length_places : (s : Start) (n : ℕ) → length (places s n) ≡ n
length_places s zero = refl
length_places s (suc n) = omega (arith, length_push (places s n) (place s n), length_places s n)

get_places : (s : Start) (n k : ℕ) → k < n → get_or (places s n) k 0 ≡ place s k
get_places s zero k h = absurd (omega arith)
get_places s (suc n) k h = elim (cases_eq k n) [
  | inl e ↦ get_or_push (places s n) (place s n) 0 k (omega (arith, length_places s n)) ∙ ap (place s) (sym e)
  | inr ne ↦ get_or_append_left (places s n) (place s n ∷ []) 0 k (omega (arith, length_places s n)) ∙ get_places s n k (omega arith)
]

path_places : (s : Start) (n : ℕ) → descriptors s (places s n) ≡ path s n
path_places s zero = refl
path_places s (suc n) = map_push (descriptor_at s.ram s.table) (places s n) (place s n) ∙ ap (λ (ds : List Descriptor). ds ++ nth s n ∷ []) (path_places s n)

take_places : (s : Start) (n k : ℕ) → k ≤ n → take k (places s n) ≡ places s k
take_places s zero k h = (let z : k ≡ 0 = omega arith in ap (λ (q : ℕ). take q (places s 0)) z ∙ ap (places s) (sym z))
take_places s (suc n) k h = elim (cases_eq k (suc n)) [
  | inl e ↦ take_all k (places s (suc n)) (omega (arith, length_places s (suc n))) ∙ ap (places s) (sym e)
  | inr ne ↦ take-append-le k (places s n) (place s n ∷ []) (omega (arith, length_places s n)) ∙ take_places s n k (omega arith)
]

not_among : (s : Start) (n p : ℕ) → ((j : ℕ) → j < n → place s j ≡ p → ⊥) → is_among s n p ≡ false
not_among s zero p h = refl
not_among s (suc n) p h =
    let a : is_among s n p ≡ false = not_among s n p (λ j x. h j (omega arith)) in
    let b : eqb p (place s n) ≡ false = ne_eqb p (place s n) (λ e. h n (omega arith) (sym e)) in
    ap (λ (t : Bool). t || eqb p (place s n)) a ∙ b

among_not : (s : Start) (n p : ℕ) → is_among s n p ≡ false → (j : ℕ) → j < n → place s j ≡ p → ⊥
among_not s zero p e j l q = absurd (omega arith)
among_not s (suc n) p e j l q =
    let t = or_parts (is_among s n p) (eqb p (place s n)) e in
    elim (cases_eq j n) [
      | inl x ↦ eqb-false p (place s n) t.1 (sym q ∙ ap (place s) x)
      | inr x ↦ among_not s n p t.0 j (omega arith) q
    ]

among_is : (s : Start) (n p : ℕ) → is_among s n p ≡ true → (j : ℕ) × ((j < n) × (place s j ≡ p))
among_is s zero p e = absurd cc
among_is s (suc n) p e = elim (or_cases (is_among s n p) (eqb p (place s n)) e) [
  | inl x ↦ (let r = among_is s n p x in (r.0, (omega (arith, r.1.0), r.1.1)))
  | inr x ↦ (n, (omega arith, sym (eqb-true p (place s n) x)))
]

never_loop : (s : Start) (n : ℕ) (b : Bool) → is_among s n (place s n) ≡ b → fault_at s n ≡ None → b ≡ false
never_loop s n true e f = (let g : Some Loop ≡ None = sym (fault_met s n e) ∙ f in absurd cc)
never_loop s n false e f = refl

stops_there : (s : Start) (n : ℕ) (b : Bool) → (nth s n).goes_on ≡ b → fault_at s n ≡ None → ends_at s n ≡ true → b ≡ false
stops_there s n true e g f = absurd (both_ways (ends_at s n) (goes_or_ends s n true g e) f)
stops_there s n false e g f = refl

-- only a place that was met before is a loop
four_no_loop : (a b c t : Bool) → cond a (Some Indirect) (cond b (Some RangeOutside) (cond c (Some OrderWrong) (cond t (Some NextRange) None))) ≡ Some Loop → ⊥
four_no_loop true b c t e = cc
four_no_loop false true c t e = cc
four_no_loop false false true t e = cc
four_no_loop false false false true e = cc
four_no_loop false false false false e = cc

fault_is_none_loop : (ram : List ℕ) (size : ℕ) (after : Bool) (d : Descriptor) → fault_of ram size after d ≡ Some Loop → ⊥
unfolding fault_of
fault_is_none_loop ram size after d e = four_no_loop d.indirect (not (holds_range ram d.addr d.len)) (after && not d.writable) (d.goes_on && nat_le size d.next) e

pub loop_met : (s : Start) (n : ℕ) → fault_at s n ≡ Some Loop → (j : ℕ) × ((j < n) × (place s j ≡ place s n))
loop_met s n f = elim (cases_Bool (is_among s n (place s n))) [
  | inl t ↦ among_is s n (place s n) t
  | inr t ↦ absurd (fault_is_none_loop s.ram s.size (has_writable (path s n)) (nth s n) (sym (fault_new s n t) ∙ f))
]

pub met_loop : (s : Start) (j n : ℕ) → j < n → place s j ≡ place s n → fault_at s n ≡ Some Loop
met_loop s j n l e = elim (cases_Bool (is_among s n (place s n))) [
  | inl t ↦ fault_met s n t
  | inr t ↦ absurd (among_not s n (place s n) t j l e)
]

-- from the walk to the whole path
pub chain_is_path : (s : Start) (c : ChainOf) → s.size ≤ 64 → s.head < s.size → Ok c ≡ walked s → (ps : List ℕ) × IsChainOf s c ps
chain_is_path s c z h e =
    let n : ℕ = end s in
    let ps : List ℕ = places s (suc n) in
    let k = outcome_ok (fault_at s n) (chain_of s.head (readable_of (path s (suc n))) (writable_of (path s (suc n)))) c (e ∙ walked_at s n refl) in
    let none : (j : ℕ) → j < suc n → fault_at s j ≡ None = λ j x. elim (cases_eq j n) [ inl q ↦ ap (fault_at s) q ∙ k.0 | inr q ↦ none_there s j (fault_at s j) refl (none_before s j (omega arith)) ] in
    let new : (j : ℕ) → j < suc n → is_among s j (place s j) ≡ false = λ j x. never_loop s j (is_among s j (place s j)) refl (none j x) in
    let len : length ps ≡ suc n = length_places s (suc n) in
    let get : (j : ℕ) → j < suc n → get_or ps j 0 ≡ place s j = get_places s (suc n) in (
      ps,
      record {
        path = record {
          some = omega arith;
          head = get 0 (omega arith);
          goes = λ j x. (let l : j < n = omega (arith, add-one j) in ap (λ (q : ℕ). (descriptor_at s.ram s.table q).goes_on) (get j (omega arith)) ∙ goes_there s j (nth s j).goes_on refl (none j (omega arith)) (none_before s j l));
          named = λ j x. (let l : j < n = omega (arith, add-one j) in ap (λ (q : ℕ). get_or ps q 0) (add-one j) ∙ (get (suc j) (omega arith) ∙ ap (λ (q : ℕ). (descriptor_at s.ram s.table q).next) (sym (get j (omega arith)))));
          ended = λ j x. (let l : j ≡ n = omega (arith, add-one j) in ap (λ (q : ℕ). (descriptor_at s.ram s.table q).goes_on) (get j (omega arith) ∙ ap (place s) l) ∙ stops_there s n (nth s n).goes_on refl k.0 (ends_there s z h));
          once = λ i j x y q. among_not s j (place s j) (new j (omega arith)) i x (sym (get i (omega arith)) ∙ (q ∙ get j (omega arith)));
        };
        sound = λ j x. ap (λ (ds : List Descriptor). fault_of s.ram s.size (has_writable ds) (at s ps j)) (ap (descriptors s) (take_places s (suc n) j (omega arith)) ∙ path_places s j) ∙ (ap (λ (q : ℕ). fault_of s.ram s.size (has_writable (path s j)) (descriptor_at s.ram s.table q)) (get j (omega arith)) ∙ none_new s j (is_among s j (place s j)) refl (none j (omega arith)));
        joined = sym k.1 ∙ ap (λ (ds : List Descriptor). chain_of s.head (readable_of ds) (writable_of ds)) (sym (path_places s (suc n)));
      },
    )

-- from the whole path to the walk
same_places : (s : Start) (ps : List ℕ) → IsPath s ps → (k : ℕ) → k < length ps → get_or ps k 0 ≡ place s k
same_places s ps p zero l = p.head
same_places s ps p (suc k) l =
    ap (λ (q : ℕ). get_or ps q 0) (sym (add-one k)) ∙ (p.named k (omega (arith, add-one k)) ∙ ap (λ (q : ℕ). (descriptor_at s.ram s.table q).next) (same_places s ps p k (omega arith)))

pub path_is_chain : (s : Start) (c : ChainOf) (ps : List ℕ) → s.size ≤ 64 → s.head < s.size → IsChainOf s c ps → Ok c ≡ walked s
path_is_chain s c ps z h r =
    let p : IsPath s ps = r.path in
    let n : ℕ = length ps - 1 in
    let len : length ps ≡ suc n = omega (arith, p.some) in
    let get : (j : ℕ) → j < length ps → get_or ps j 0 ≡ place s j = same_places s ps p in
    let all : ps ≡ places s (suc n) = ext_get_or 0 ps (places s (suc n)) (omega (arith, length_places s (suc n))) (λ j x. get j x ∙ sym (get_places s (suc n) j (omega arith))) in
    let new : (j : ℕ) → j < suc n → is_among s j (place s j) ≡ false = λ j x. not_among s j (place s j) (λ i y q. p.once i j y (omega arith) (get i (omega arith) ∙ (q ∙ sym (get j (omega arith))))) in
    let sound : (j : ℕ) → j < suc n → fault_of s.ram s.size (has_writable (path s j)) (nth s j) ≡ None = λ j x.
    ap (λ (q : ℕ). fault_of s.ram s.size (has_writable (path s j)) (descriptor_at s.ram s.table q)) (sym (get j (omega arith))) ∙ (ap (λ (ds : List Descriptor). fault_of s.ram s.size (has_writable ds) (at s ps j)) (sym (ap (λ (qs : List ℕ). descriptors s (take j qs)) all ∙ (ap (descriptors s) (take_places s (suc n) j (omega arith)) ∙ path_places s j))) ∙ r.sound j (omega arith)) in
    let none : (j : ℕ) → j < suc n → fault_at s j ≡ None = λ j x. fault_new s j (new j x) ∙ sound j x in
    let goes : (j : ℕ) → j < n → ends_at s j ≡ false = λ j x. goes_or_ends s j true (none j (omega arith)) (ap (λ (q : ℕ). (descriptor_at s.ram s.table q).goes_on) (sym (get j (omega arith))) ∙ p.goes j (omega (arith, add-one j))) in
    let stop : ends_at s n ≡ true = goes_or_ends s n false (none n (omega arith)) (ap (λ (q : ℕ). (descriptor_at s.ram s.table q).goes_on) (sym (get n (omega arith))) ∙ p.ended n (omega (arith, add-one n))) in
    let f : Reached s n = reach s n z h goes in
    let e : end s ≡ n = end_is s n goes stop (along_count s n f.p f.met f.after f.c f.along) in
    sym (walked_at s n e ∙ (ap (λ (x : Option Why). outcome x (chain_of s.head (readable_of (path s (suc n))) (writable_of (path s (suc n))))) (none n (omega arith)) ∙ ap Ok (ap (λ (ds : List Descriptor). chain_of s.head (readable_of ds) (writable_of ds)) (sym (path_places s (suc n)) ∙ ap (descriptors s) (sym all)) ∙ sym r.joined)))

outcome_err : (o : Option Why) (x : ChainOf) (w : Why) → Err w ≡ outcome o x → o ≡ Some w
outcome_err None x w e = absurd cc
outcome_err (Some v) x w e = cc

pub broken_breaks : (s : Start) (w : Why) → Err w ≡ walked s → (n : ℕ) × BreaksAt s w n
broken_breaks s w e =
    let n : ℕ = end s in
    let f = outcome_err (fault_at s n) (chain_of s.head (readable_of (path s (suc n))) (writable_of (path s (suc n)))) w (e ∙ walked_at s n refl) in
    let none : (k : ℕ) → k < n → fault_at s k ≡ None = λ k x. none_there s k (fault_at s k) refl (none_before s k x) in
    (n, record { before = none; goes = λ k x. goes_there s k (nth s k).goes_on refl (none k x) (none_before s k x); wrong = f })

pub breaks_broken : (s : Start) (w : Why) (n : ℕ) → s.size ≤ 64 → s.head < s.size → BreaksAt s w n → Err w ≡ walked s
breaks_broken s w n z h b =
    let low : (k : ℕ) → k < n → ends_at s k ≡ false = λ k x. goes_or_ends s k true (b.before k x) (b.goes k x) in
    let f : Reached s n = reach s n z h low in
    let e : end s ≡ n = end_is s n low (ends_by_fault s n w b.wrong) (along_count s n f.p f.met f.after f.c f.along) in
    sym (walked_at s n e ∙ ap (λ (x : Option Why). outcome x (chain_of s.head (readable_of (path s (suc n))) (writable_of (path s (suc n))))) b.wrong)
