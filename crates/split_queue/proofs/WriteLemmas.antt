-- Bytes of a stream are written a range at a time.
use Rattle.std.proofs.Common.{◌≡◌, ℕ, ◌+◌, ◌-◌, ◌<◌, ◌≤◌, min, ltb, List, [], ◌∷◌, ◌++◌, length, take, drop, refl, sym, ap, ◌∙◌, arith, inl, inr}
use Rattle.std.proofs.lemmas.List.{drop_all, take-append-drop, length-take-le, length-drop}
use Rattle.std.proofs.lemmas.Bool.{cases_lt, cond-true, cond-false, lt-ltb, le-ltb}
use Rattle.byte_pages.specs.LittleEndian.{with_bytes}
use Rattle.byte_pages.proofs.Writes.{length_with, two_writes, with_none}
use Rattle.guest_ram.specs.Bytes.{ram_after}
use Rattle.split_queue.specs.Sizes.{InRam}
use Rattle.split_queue.specs.declared.range.Range.{Range}
use Rattle.split_queue.specs.Streams.{address_of, written, stream_len, RangesIn}
use Rattle.split_queue.proofs.StreamLemmas.{cons_len, ranges_same}

-- two pieces, one right behind the other
pub written_append : (ram : List ℕ) (rs : List Range) (pos : ℕ) (xs ys : List ℕ) → written ram rs pos (xs ++ ys) ≡ written (written ram rs pos xs) rs (pos + length xs) ys
written_append ram rs pos [] ys = ap (λ (k : ℕ). written ram rs k ys) (let e : pos ≡ pos + 0 = omega arith in e)
written_append ram rs pos (x ∷ xs) ys =
    let one : List ℕ = ram_after ram (address_of rs pos) (x ∷ []) in
    let e : pos + 1 + length xs ≡ pos + length (x ∷ xs) = omega arith in
    written_append one rs (pos + 1) xs ys ∙ ap (λ (k : ℕ). written (written one rs (pos + 1) xs) rs k ys) e

-- within one range, bytes are written as one slice
written_part : (ram : List ℕ) (r : Range) (rs : List Range) (pos : ℕ) (xs : List ℕ) → InRam ram r.addr r.len → pos + length xs ≤ r.len → written ram (r ∷ rs) pos xs ≡ ram_after ram (r.addr + pos) xs
written_part ram r rs pos [] h l = sym (with_none ram (r.addr + pos - 0x80000000))
written_part ram r rs pos (x ∷ xs) h l =
    let a : ℕ = r.addr + pos in
    let at : address_of (r ∷ rs) pos ≡ a = cond-true (ltb pos r.len) a (address_of rs (pos - r.len)) (lt-ltb pos r.len (omega arith)) in
    let one : List ℕ = ram_after ram a (x ∷ []) in
    let size : length one ≡ length ram = length_with ram (a - 0x80000000) (x ∷ []) (omega (arith, h.0, h.1)) in
    let next : r.addr + (pos + 1) - 0x80000000 ≡ a - 0x80000000 + 1 = omega (arith, h.0) in
    ap (λ (k : ℕ). written (ram_after ram k (x ∷ [])) (r ∷ rs) (pos + 1) xs) at ∙ (written_part one r rs (pos + 1) xs (h.0, omega (arith, h.1), omega (arith, h.2)) (omega arith) ∙ (ap (λ (k : ℕ). with_bytes one k xs) next ∙ two_writes ram (x ∷ []) xs (a - 0x80000000) (a - 0x80000000 + 1) (omega arith) (omega (arith, h.0, h.1))))

-- a whole range is passed over
written_past : (ram : List ℕ) (r : Range) (rs : List Range) (pos : ℕ) (xs : List ℕ) → r.len ≤ pos → written ram (r ∷ rs) pos xs ≡ written ram rs (pos - r.len) xs
written_past ram r rs pos [] l = refl
written_past ram r rs pos (x ∷ xs) l =
    let at : address_of (r ∷ rs) pos ≡ address_of rs (pos - r.len) = cond-false (ltb pos r.len) (r.addr + pos) (address_of rs (pos - r.len)) (le-ltb pos r.len l) in
    let one : List ℕ = ram_after ram (address_of rs (pos - r.len)) (x ∷ []) in
    let next : pos + 1 - r.len ≡ pos - r.len + 1 = omega arith in
    ap (λ (k : ℕ). written (ram_after ram k (x ∷ [])) (r ∷ rs) (pos + 1) xs) at ∙ (written_past one r rs (pos + 1) xs (omega arith) ∙ ap (λ (k : ℕ). written one rs k xs) next)

-- what is left of a range is written, as far as there are bytes, and the rest goes to the ranges behind it
written_step : (ram : List ℕ) (r : Range) (rs : List Range) (skip n : ℕ) (xs : List ℕ) → InRam ram r.addr r.len → skip < r.len → n ≡ min (r.len - skip) (length xs) → written ram (r ∷ rs) skip xs ≡ written (ram_after ram (r.addr + skip) (take n xs)) rs 0 (drop n xs)
written_step ram r rs skip n xs h l e =
    let size : length (take n xs) ≡ n = length-take-le n xs (omega arith) in
    let now : List ℕ = ram_after ram (r.addr + skip) (take n xs) in
    let part : written ram (r ∷ rs) skip (take n xs) ≡ now = written_part ram r rs skip (take n xs) h (omega arith) in
    let split : written ram (r ∷ rs) skip xs ≡ written now (r ∷ rs) (skip + length (take n xs)) (drop n xs) =
    ap (written ram (r ∷ rs) skip) (sym (take-append-drop n xs)) ∙ (written_append ram (r ∷ rs) skip (take n xs) (drop n xs) ∙ ap (λ (b : List ℕ). written b (r ∷ rs) (skip + length (take n xs)) (drop n xs)) part) in
    split ∙ elim (cases_lt n (r.len - skip)) [
      | inl few ↦ (let none : drop n xs ≡ [] = drop_all n xs (omega arith) in
          ap (written now (r ∷ rs) (skip + length (take n xs))) none ∙ ap (written now rs 0) (sym none))
      | inr all ↦ (let z : skip + length (take n xs) - r.len ≡ 0 = omega arith in
          written_past now r rs (skip + length (take n xs)) (drop n xs) (omega arith) ∙ ap (λ (k : ℕ). written now rs k (drop n xs)) z)
    ]

-- how far writing has come: the ranges and the bytes that are left, and the bytes of the ranges to be passed over
pub record Writing (ram : List ℕ) (rs : List Range) (skip : ℕ) (xs whole : List ℕ) : Type 0 where
  pub ranges : RangesIn ram rs
  pub inside : skip + length xs ≤ stream_len rs
  pub rest : written ram rs skip xs ≡ whole

pub write_on : (ram : List ℕ) (r : Range) (rs : List Range) (skip : ℕ) (xs whole : List ℕ) → Writing ram (r ∷ rs) skip xs whole → r.len ≤ skip → Writing ram rs (skip - r.len) xs whole
write_on ram r rs skip xs whole v l = record {
  ranges = v.ranges.1;
  inside = omega (arith, v.inside, cons_len r rs);
  rest = sym (written_past ram r rs skip xs l) ∙ v.rest;
}

pub write_more : (ram : List ℕ) (r : Range) (rs : List Range) (skip n : ℕ) (xs whole : List ℕ) → Writing ram (r ∷ rs) skip xs whole → skip < r.len → n ≡ min (r.len - skip) (length xs) → Writing (ram_after ram (r.addr + skip) (take n xs)) rs 0 (drop n xs) whole
write_more ram r rs skip n xs whole v l e =
    let size : length (take n xs) ≡ n = length-take-le n xs (omega arith) in
    let same : length (ram_after ram (r.addr + skip) (take n xs)) ≡ length ram = length_with ram (r.addr + skip - 0x80000000) (take n xs) (omega (arith, v.ranges.0.0, v.ranges.0.1)) in
    record {
      ranges = ranges_same ram (ram_after ram (r.addr + skip) (take n xs)) rs same v.ranges.1;
      inside = omega (arith, v.inside, cons_len r rs, length-drop n xs);
      rest = sym (written_step ram r rs skip n xs v.ranges.0 l e) ∙ v.rest;
    }
