-- The ranges of a chain lie in RAM.
use Rattle.std.proofs.Common.{◌≡◌, ℕ, zero, suc, ◌+◌, ◌<◌, ◌≤◌, Bool, true, false, not, ◌&&◌, cond, leb, List, [], ◌∷◌, ◌++◌, length, refl, sym, ap, ◌∙◌, subst, arith, Option, Some, None, Ok, inl, inr, nat_le}
use Rattle.std.proofs.lemmas.Bool.{cases_eq, and_parts, leb-true}
use Rattle.tb_base.specs.declared.why.Why.{Why}
use Rattle.tb_base.specs.declared.why.Why.TheVariants.{Loop, Indirect, RangeOutside, OrderWrong, NextRange}
use Rattle.guest_ram.specs.Bytes.{holds_range}
use Rattle.split_queue.specs.Sizes.{InRam}
use Rattle.split_queue.specs.declared.descriptor.Descriptor.{Descriptor}
use Rattle.split_queue.specs.declared.range.Range.{Range}
use Rattle.split_queue.specs.Chains.{ChainOf, chain_of}
use Rattle.split_queue.specs.Paths.{Start, place, nth, path, is_among, has_writable, fault_at, fault_of, end, range_of, readable_of, writable_of, outcome, walked}
use Rattle.split_queue.specs.Streams.{RangesIn, ChainIn}
use Rattle.split_queue.specs.Walks.{added}
use Rattle.split_queue.proofs.AlongLemmas.{fault_met, fault_new, added_is}
use Rattle.split_queue.proofs.PathsEnd.{none_there, none_before}

second_none : (a b : Bool) (o : Option Why) → cond a (Some Indirect) (cond (not b) (Some RangeOutside) o) ≡ None → b ≡ true
second_none true b o e = absurd cc
second_none false true o e = refl
second_none false false o e = absurd cc

held_of : (ram : List ℕ) (size : ℕ) (after : Bool) (d : Descriptor) → fault_of ram size after d ≡ None → holds_range ram d.addr d.len ≡ true
unfolding fault_of
held_of ram size after d e = second_none d.indirect (holds_range ram d.addr d.len) (cond (after && not d.writable) (Some OrderWrong) (cond (d.goes_on && nat_le size d.next) (Some NextRange) None)) e

in_of : (ram : List ℕ) (a n : ℕ) → length ram ≤ 16777216 → holds_range ram a n ≡ true → InRam ram a n
in_of ram a n l e =
    let p = and_parts (leb 0x80000000 a) (leb (a + n) (0x80000000 + length ram)) e in
    (leb-true 0x80000000 a p.0, leb-true (a + n) (0x80000000 + length ram) p.1, l)

ranges_push : (ram : List ℕ) (rs : List Range) (r : Range) → RangesIn ram rs → InRam ram r.addr r.len → RangesIn ram (rs ++ r ∷ [])
ranges_push ram [] r h i = (i, tt)
ranges_push ram (x ∷ rs) r h i = (h.0, ranges_push ram rs r h.1 i)

added_in : (ram : List ℕ) (c : ChainOf) (d : Descriptor) → ChainIn ram c → InRam ram d.addr d.len → ChainIn ram (added c d)
unfolding added
added_in ram c d h i =
    elim d.writable as (λ b. ChainIn ram (cond b (chain_of c.head c.readable (c.writable ++ range_of d ∷ [])) (chain_of c.head (c.readable ++ range_of d ∷ []) c.writable))) [
      | true ↦ (h.0, ranges_push ram c.writable (range_of d) h.1 i)
      | false ↦ (ranges_push ram c.readable (range_of d) h.0 i, h.1)
    ]

pub none_new : (s : Start) (n : ℕ) (b : Bool) → is_among s n (place s n) ≡ b → fault_at s n ≡ None → fault_of s.ram s.size (has_writable (path s n)) (nth s n) ≡ None
none_new s n true e f = (let g : Some Loop ≡ None = sym (fault_met s n e) ∙ f in absurd cc)
none_new s n false e f = sym (fault_new s n e) ∙ f

chain_in : (s : Start) (n : ℕ) → length s.ram ≤ 16777216 → ((k : ℕ) → k < n → fault_at s k ≡ None) → ChainIn s.ram (chain_of s.head (readable_of (path s n)) (writable_of (path s n)))
chain_in s zero l h = (tt, tt)
chain_in s (suc n) l h =
    let f = none_new s n (is_among s n (place s n)) refl (h n (omega arith)) in
    let i = in_of s.ram (nth s n).addr (nth s n).len l (held_of s.ram s.size (has_writable (path s n)) (nth s n) f) in
    subst (ChainIn s.ram) (added_is s.head (path s n) (nth s n)) (added_in s.ram (chain_of s.head (readable_of (path s n)) (writable_of (path s n))) (nth s n) (chain_in s n l (λ k x. h k (omega arith))) i)

pub outcome_ok : (o : Option Why) (x c : ChainOf) → Ok c ≡ outcome o x → (o ≡ None) × (x ≡ c)
outcome_ok None x c e = (refl, cc)
outcome_ok (Some w) x c e = absurd cc

pub walked_in : (s : Start) (c : ChainOf) → length s.ram ≤ 16777216 → Ok c ≡ walked s → ChainIn s.ram c
unfolding walked
walked_in s c l e =
    let k = outcome_ok (fault_at s (end s)) (chain_of s.head (readable_of (path s (suc (end s)))) (writable_of (path s (suc (end s))))) c e in
    subst (ChainIn s.ram) k.1 (chain_in s (suc (end s)) l (λ j x. elim (cases_eq j (end s)) [ inl q ↦ ap (fault_at s) q ∙ k.0 | inr q ↦ none_there s j (fault_at s j) refl (none_before s j (omega arith)) ]))
