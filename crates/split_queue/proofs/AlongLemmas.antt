-- What a walk that has come to descriptor n of the path may answer.
use Rattle.std.proofs.Common.{◌≡◌, ℕ, zero, suc, ◌+◌, ◌<◌, ◌≤◌, Bool, true, false, not, ◌&&◌, ◌||◌, cond, eqb, leb, nat_le, List, [], ◌∷◌, ◌++◌, length, map, set, replicate, get_or, refl, sym, ap, ◌∙◌, subst, arith, add-one, Option, Some, None, is_some, Ok, Err, inl, inr}
use Rattle.std.specs.List.{count_by, filter}
use Rattle.std.proofs.lemmas.List.{get_or-set_same, get_or-set_other, get_or-replicate, length-set, length_push, map-append, append-nil}
use Rattle.std.proofs.lemmas.List.Sums.{count_by-le-length, sum_by-set}
use Rattle.std.proofs.lemmas.List.Elements.{filter-append}
use Rattle.std.proofs.lemmas.Bool.{cases_eq, eq-eqb, ne_eqb, leb-false, cond-true, cond-false, or_right, or_parts}
use Rattle.tb_base.specs.declared.why.Why.{Why}
use Rattle.tb_base.specs.declared.why.Why.TheVariants.{Loop, Indirect, RangeOutside, OrderWrong, NextRange}
use Rattle.guest_ram.specs.Bytes.{holds_range}
use Rattle.split_queue.specs.declared.descriptor.Descriptor.{Descriptor}
use Rattle.split_queue.specs.declared.range.Range.{Range}
use Rattle.split_queue.specs.Chains.{ChainOf, chain_of}
use Rattle.split_queue.specs.Rings.{descriptor_at}
use Rattle.split_queue.specs.Paths.{Start, place, nth, path, is_among, has_writable, fault_of, fault_at, ends_at, first_from, end, range_of, readable_of, writable_of, outcome, walked}
use Rattle.split_queue.specs.Walks.{added}
use Rattle.split_queue.proofs.Along.{Along}

first_is : (test : ℕ → Bool) (k m n : ℕ) → ((j : ℕ) → k ≤ j → j < n → test j ≡ false) → test n ≡ true → k ≤ n → n ≤ k + m → first_from test k m ≡ n
first_is test k zero n low at a b = omega arith
first_is test k (suc m) n low at a b = elim (cases_eq k n) [
  | inl e ↦ (let t : test k ≡ true = ap test e ∙ at in cond-true (test k) k (first_from test (k + 1) m) t ∙ e)
  | inr ne ↦ (let t : test k ≡ false = low k (omega arith) (omega arith) in cond-false (test k) k (first_from test (k + 1) m) t ∙ first_is test (k + 1) m n (λ j x y. low j (omega arith) y) at (omega arith) (omega arith))
]

pub end_is : (s : Start) (n : ℕ) → ((k : ℕ) → k < n → ends_at s k ≡ false) → ends_at s n ≡ true → n ≤ 64 → end s ≡ n
unfolding end
end_is s n low at h = first_is (ends_at s) 0 64 n (λ j _ y. low j y) at (omega arith) (omega arith)

pub walked_at : (s : Start) (n : ℕ) → end s ≡ n → walked s ≡ outcome (fault_at s n) (chain_of s.head (readable_of (path s (suc n))) (writable_of (path s (suc n))))
unfolding walked
walked_at s n e = ap (λ (k : ℕ). outcome (fault_at s k) (chain_of s.head (readable_of (path s (suc k))) (writable_of (path s (suc k))))) e

pub ends_by_fault : (s : Start) (n : ℕ) (w : Why) → fault_at s n ≡ Some w → ends_at s n ≡ true
unfolding ends_at
ends_by_fault s n w e = ap (λ (f : Option Why). is_some f || not (nth s n).goes_on) e

pub goes_or_ends : (s : Start) (n : ℕ) (g : Bool) → fault_at s n ≡ None → (nth s n).goes_on ≡ g → ends_at s n ≡ not g
unfolding ends_at
goes_or_ends s n g e f = ap (λ (x : Option Why). is_some x || not (nth s n).goes_on) e ∙ ap not f

pub fault_met : (s : Start) (n : ℕ) → is_among s n (place s n) ≡ true → fault_at s n ≡ Some Loop
unfolding fault_at
fault_met s n e = cond-true (is_among s n (place s n)) (Some Loop) (fault_of s.ram s.size (has_writable (path s n)) (nth s n)) e

pub fault_new : (s : Start) (n : ℕ) → is_among s n (place s n) ≡ false → fault_at s n ≡ fault_of s.ram s.size (has_writable (path s n)) (nth s n)
unfolding fault_at
fault_new s n e = cond-false (is_among s n (place s n)) (Some Loop) (fault_of s.ram s.size (has_writable (path s n)) (nth s n)) e

count_mark : (met : List Bool) (p : ℕ) → p < length met → get_or met p false ≡ false → count_by (λ (b : Bool). b) (set met p true) ≡ count_by (λ (b : Bool). b) met + 1
count_mark met p h e =
    let f : Bool → ℕ = λ b. cond b 1 0 in
    let k = sum_by-set f met p true false h in
    let z : f (get_or met p false) ≡ 0 = ap f e in
    omega arith

pub along_room : (s : Start) (n p : ℕ) (met : List Bool) (after : Bool) (c : ChainOf) → Along s n p met after c → get_or met p false ≡ false → n < 64
along_room s n p met after c a e =
    let i : p < length met = omega (arith, a.inside, a.small, a.table) in
    let k = count_mark met p i e in
    let l = count_by-le-length (λ (b : Bool). b) (set met p true) in
    omega (arith, length-set met p true, a.count, a.table)

pub along_count : (s : Start) (n p : ℕ) (met : List Bool) (after : Bool) (c : ChainOf) → Along s n p met after c → n ≤ 64
along_count s n p met after c a =
    let l = count_by-le-length (λ (b : Bool). b) met in
    omega (arith, a.count, a.table)

pub along_start : (s : Start) → s.size ≤ 64 → s.head < s.size → Along s 0 s.head (replicate 64 false) false (chain_of s.head [] [])
along_start s z h = record {
  at = refl;
  inside = h;
  small = z;
  earlier = λ k x. absurd (omega arith);
  marks = λ j x. get_or-replicate 64 j false false x;
  table = refl;
  count = refl;
  wrote = refl;
  chain = refl;
  lengths = refl;
}

pub along_old : (s : Start) (n p : ℕ) (met : List Bool) (after : Bool) (c : ChainOf) (b : Bool) → Along s n p met after c → get_or met p false ≡ b → is_among s n (place s n) ≡ b
along_old s n p met after c b a e = ap (is_among s n) (sym a.at) ∙ (sym (a.marks p (omega (arith, a.inside, a.small))) ∙ e)

pub along_met : (s : Start) (n p : ℕ) (met : List Bool) (after : Bool) (c : ChainOf) → Along s n p met after c → get_or met p false ≡ true → walked s ≡ Err Loop
along_met s n p met after c a e =
    let f = fault_met s n (along_old s n p met after c true a e) in
    let d = end_is s n a.earlier (ends_by_fault s n Loop f) (along_count s n p met after c a) in
    walked_at s n d ∙ ap (λ (x : Option Why). outcome x (chain_of s.head (readable_of (path s (suc n))) (writable_of (path s (suc n))))) f

-- what the code finds wrong is what is wrong at descriptor n
pub along_wrong : (s : Start) (n p : ℕ) (met : List Bool) (after : Bool) (c : ChainOf) → Along s n p met after c → get_or met p false ≡ false → fault_at s n ≡ fault_of s.ram s.size after (descriptor_at s.ram s.table p)
along_wrong s n p met after c a e =
    fault_new s n (along_old s n p met after c false a e) ∙ (ap (λ (b : Bool). fault_of s.ram s.size b (nth s n)) (sym a.wrote) ∙ ap (λ (q : ℕ). fault_of s.ram s.size after (descriptor_at s.ram s.table q)) (sym a.at))

pub along_fault : (s : Start) (n p : ℕ) (met : List Bool) (after : Bool) (c : ChainOf) (w : Why) → Along s n p met after c → get_or met p false ≡ false → fault_of s.ram s.size after (descriptor_at s.ram s.table p) ≡ Some w → walked s ≡ Err w
along_fault s n p met after c w a e g =
    let f = along_wrong s n p met after c a e ∙ g in
    let d = end_is s n a.earlier (ends_by_fault s n w f) (along_count s n p met after c a) in
    walked_at s n d ∙ ap (λ (x : Option Why). outcome x (chain_of s.head (readable_of (path s (suc n))) (writable_of (path s (suc n))))) f

added_test : (h : ℕ) (ds : List Descriptor) (d : Descriptor) (b : Bool) → cond b (chain_of h (readable_of ds) (writable_of ds ++ range_of d ∷ [])) (chain_of h (readable_of ds ++ range_of d ∷ []) (writable_of ds)) ≡ chain_of h (readable_of ds ++ map range_of (cond (not b) (d ∷ []) [])) (writable_of ds ++ map range_of (cond b (d ∷ []) []))
added_test h ds d true = ap (λ (rs : List Range). chain_of h rs (writable_of ds ++ range_of d ∷ [])) (sym (append-nil (readable_of ds)))
added_test h ds d false = ap (λ (rs : List Range). chain_of h (readable_of ds ++ range_of d ∷ []) rs) (sym (append-nil (writable_of ds)))

pub added_is : (h : ℕ) (ds : List Descriptor) (d : Descriptor) → added (chain_of h (readable_of ds) (writable_of ds)) d ≡ chain_of h (readable_of (ds ++ d ∷ [])) (writable_of (ds ++ d ∷ []))
unfolding added
added_is h ds d =
    let r : readable_of (ds ++ d ∷ []) ≡ readable_of ds ++ map range_of (cond (not d.writable) (d ∷ []) []) = ap (map range_of) (filter-append (λ (x : Descriptor). not x.writable) ds (d ∷ [])) ∙ map-append range_of (filter (λ (x : Descriptor). not x.writable) ds) (cond (not d.writable) (d ∷ []) []) in
    let w : writable_of (ds ++ d ∷ []) ≡ writable_of ds ++ map range_of (cond d.writable (d ∷ []) []) = ap (map range_of) (filter-append (λ (x : Descriptor). x.writable) ds (d ∷ [])) ∙ map-append range_of (filter (λ (x : Descriptor). x.writable) ds) (cond d.writable (d ∷ []) []) in
    added_test h ds d d.writable ∙ cc

added_more : (s : Start) (n p : ℕ) (met : List Bool) (after : Bool) (c : ChainOf) → Along s n p met after c → added c (descriptor_at s.ram s.table p) ≡ chain_of s.head (readable_of (path s (suc n))) (writable_of (path s (suc n)))
added_more s n p met after c a =
    ap (λ (x : ChainOf). added x (descriptor_at s.ram s.table p)) a.chain ∙ (ap (λ (q : ℕ). added (chain_of s.head (readable_of (path s n)) (writable_of (path s n))) (descriptor_at s.ram s.table q)) a.at ∙ added_is s.head (path s n) (nth s n))

pub along_end : (s : Start) (n p : ℕ) (met : List Bool) (after : Bool) (c : ChainOf) → Along s n p met after c → get_or met p false ≡ false → fault_of s.ram s.size after (descriptor_at s.ram s.table p) ≡ None → (descriptor_at s.ram s.table p).goes_on ≡ false → walked s ≡ Ok (added c (descriptor_at s.ram s.table p))
along_end s n p met after c a e g o =
    let f = along_wrong s n p met after c a e ∙ g in
    let z = goes_or_ends s n false f (ap (λ (q : ℕ). (descriptor_at s.ram s.table q).goes_on) (sym a.at) ∙ o) in
    let d = end_is s n a.earlier z (along_count s n p met after c a) in
    walked_at s n d ∙ (ap (λ (x : Option Why). outcome x (chain_of s.head (readable_of (path s (suc n))) (writable_of (path s (suc n))))) f ∙ ap Ok (sym (added_more s n p met after c a)))

or_false : (b : Bool) → (b || false) ≡ b
or_false true = refl
or_false false = refl

or_again : (x y z : Bool) → (x || (y || z)) ≡ ((x || y) || z)
or_again true y z = refl
or_again false y z = refl

has_writable_push : (ds : List Descriptor) (d : Descriptor) → has_writable (ds ++ d ∷ []) ≡ (has_writable ds || d.writable)
has_writable_push [] d = or_false d.writable
has_writable_push (x ∷ ds) d = ap (λ (b : Bool). x.writable || b) (has_writable_push ds d) ∙ or_again x.writable (has_writable ds) d.writable

last_none : (a b c t : Bool) → cond a (Some Indirect) (cond b (Some RangeOutside) (cond c (Some OrderWrong) (cond t (Some NextRange) None))) ≡ None → t ≡ false
last_none true b c t e = absurd cc
last_none false true c t e = absurd cc
last_none false false true t e = absurd cc
last_none false false false true e = absurd cc
last_none false false false false e = refl

next_inside : (ram : List ℕ) (size : ℕ) (after : Bool) (d : Descriptor) → fault_of ram size after d ≡ None → d.goes_on ≡ true → d.next < size
unfolding fault_of
next_inside ram size after d e g =
    let k = last_none d.indirect (not (holds_range ram d.addr d.len)) (after && not d.writable) (d.goes_on && nat_le size d.next) e in
    let l : leb size d.next ≡ false = subst (λ (b : Bool). (b && nat_le size d.next) ≡ false) g k in
    leb-false size d.next l

added_lengths : (c : ChainOf) (d : Descriptor) → length (added c d).readable + length (added c d).writable ≡ length c.readable + length c.writable + 1
unfolding added
added_lengths c d =
    elim d.writable as (λ b. let x : ChainOf = cond b (chain_of c.head c.readable (c.writable ++ range_of d ∷ [])) (chain_of c.head (c.readable ++ range_of d ∷ []) c.writable) in length x.readable + length x.writable ≡ length c.readable + length c.writable + 1) [
      | true ↦ omega (arith, length_push c.writable (range_of d))
      | false ↦ omega (arith, length_push c.readable (range_of d))
    ]

marks_more : (s : Start) (n p : ℕ) (met : List Bool) (after : Bool) (c : ChainOf) → Along s n p met after c → (j : ℕ) → j < 64 → get_or (set met p true) j false ≡ (is_among s n j || eqb j (place s n))
marks_more s n p met after c a j h = elim (cases_eq j p) [
  | inl e ↦ (let i : p < length met = omega (arith, a.inside, a.small, a.table) in ap (λ (q : ℕ). get_or (set met p true) q false) e ∙ (get_or-set_same met p true false i ∙ sym (or_right (is_among s n j) (eqb j (place s n)) (eq-eqb j (place s n) (e ∙ a.at)))))
  | inr ne ↦ get_or-set_other met p j true false ne ∙ (a.marks j h ∙ sym (ap (λ (b : Bool). is_among s n j || b) (ne_eqb j (place s n) (λ q. ne (q ∙ sym a.at))) ∙ or_false (is_among s n j)))
]

pub along_next : (s : Start) (n p : ℕ) (met : List Bool) (after : Bool) (c : ChainOf) → Along s n p met after c → get_or met p false ≡ false → fault_of s.ram s.size after (descriptor_at s.ram s.table p) ≡ None → (descriptor_at s.ram s.table p).goes_on ≡ true → Along s (n + 1) (descriptor_at s.ram s.table p).next (set met p true) (after || (descriptor_at s.ram s.table p).writable) (added c (descriptor_at s.ram s.table p))
along_next s n p met after c a e g o =
    let d : Descriptor = descriptor_at s.ram s.table p in
    let f = along_wrong s n p met after c a e ∙ g in
    let z = goes_or_ends s n true f (ap (λ (q : ℕ). (descriptor_at s.ram s.table q).goes_on) (sym a.at) ∙ o) in
    let i : p < length met = omega (arith, a.inside, a.small, a.table) in
    let more : Along s (suc n) d.next (set met p true) (after || d.writable) (added c d) = record {
      at = ap (λ (q : ℕ). (descriptor_at s.ram s.table q).next) a.at;
      inside = next_inside s.ram s.size after d g o;
      small = a.small;
      earlier = λ k x. elim (cases_eq k n) [ inl q ↦ ap (ends_at s) q ∙ z | inr q ↦ a.earlier k (omega arith) ];
      marks = marks_more s n p met after c a;
      table = length-set met p true ∙ a.table;
      count = omega (arith, count_mark met p i e, a.count);
      wrote = ap (λ (b : Bool). b || d.writable) a.wrote ∙ (ap (λ (q : ℕ). has_writable (path s n) || (descriptor_at s.ram s.table q).writable) a.at ∙ sym (has_writable_push (path s n) (nth s n)));
      chain = added_more s n p met after c a;
      lengths = omega (arith, added_lengths c d, a.lengths);
    } in
    subst (λ (k : ℕ). Along s k d.next (set met p true) (after || d.writable) (added c d)) (sym (add-one n)) more

third_none : (a b c t : Bool) → cond a (Some Indirect) (cond b (Some RangeOutside) (cond c (Some OrderWrong) (cond t (Some NextRange) None))) ≡ None → c ≡ false
third_none true b c t e = absurd cc
third_none false true c t e = absurd cc
third_none false false true t e = absurd cc
third_none false false false t e = refl

and_true : (b : Bool) → (b && true) ≡ false → b ≡ false
and_true true e = e
and_true false e = refl

none_after : (ram : List ℕ) (size : ℕ) (after : Bool) (d : Descriptor) → fault_of ram size after d ≡ None → d.writable ≡ false → after ≡ false
unfolding fault_of
none_after ram size after d e w =
    let k = third_none d.indirect (not (holds_range ram d.addr d.len)) (after && not d.writable) (d.goes_on && nat_le size d.next) e in
    and_true after (subst (λ (b : Bool). (after && not b) ≡ false) w k)

no_writable : (ds : List Descriptor) → has_writable ds ≡ false → writable_of ds ≡ []
no_writable [] e = refl
no_writable (d ∷ ds) e =
    let p = or_parts d.writable (has_writable ds) e in
    ap (λ (b : Bool). map range_of (cond b (d ∷ filter (λ (x : Descriptor). x.writable) ds) (filter (λ (x : Descriptor). x.writable) ds))) p.0 ∙ no_writable ds p.1

-- before a readable descriptor no writable one stands
pub along_first : (s : Start) (n p : ℕ) (met : List Bool) (after : Bool) (c : ChainOf) → Along s n p met after c → fault_of s.ram s.size after (descriptor_at s.ram s.table p) ≡ None → (descriptor_at s.ram s.table p).writable ≡ false → c.writable ≡ []
along_first s n p met after c a g w =
    ap (λ (x : ChainOf). x.writable) a.chain ∙ no_writable (path s n) (sym a.wrote ∙ none_after s.ram s.size after (descriptor_at s.ram s.table p) g w)
