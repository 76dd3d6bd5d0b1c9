-- Bytes of a stream are read a range at a time.
use Rattle.std.proofs.Common.{◌≡◌, ℕ, ◌+◌, ◌-◌, ◌<◌, ◌≤◌, min, List, [], ◌∷◌, ◌++◌, length, take, drop, slice_range, sym, ap, ◌∙◌, arith, append_assoc, inl, inr}
use Rattle.std.proofs.lemmas.List.{drop-append-le, drop-drop, drop-take, take-take, take-append-le, append-nil, length-append, length-drop, length-take-le}
use Rattle.std.proofs.lemmas.Slice.{take-put_mid}
use Rattle.std.proofs.Math.Seq.{drop-append-add, take-append-add}
use Rattle.std.proofs.lemmas.Bool.{cases_lt}
use borrow.Rule.Slice.PartMut.{put_mid}
use Rattle.split_queue.specs.Sizes.{InRam}
use Rattle.split_queue.specs.declared.range.Range.{Range}
use Rattle.split_queue.specs.Streams.{range_bytes, stream, stream_len, RangesIn}
use Rattle.split_queue.proofs.StreamLemmas.{cons_len, len_slice, length_range}

-- bytes of one range, from its place `skip` on
abbrev pub part_bytes : List ℕ → Range → ℕ → ℕ → List ℕ
part_bytes ram r skip n = slice_range ram (r.addr + skip - 0x80000000) (r.addr + skip - 0x80000000 + n)

-- a whole range is passed over
pub read_past : (ram : List ℕ) (r : Range) (rs : List Range) (skip m : ℕ) → InRam ram r.addr r.len → r.len ≤ skip → take m (drop skip (stream ram (r ∷ rs))) ≡ take m (drop (skip - r.len) (stream ram rs))
read_past ram r rs skip m h l =
    let e : skip ≡ length (range_bytes ram r) + (skip - r.len) = omega (arith, length_range ram r h) in
    ap (λ (k : ℕ). take m (drop k (stream ram (r ∷ rs)))) e ∙ ap (take m) (drop-append-add (range_bytes ram r) (stream ram rs) (skip - r.len))

-- what is left of a range behind its place `skip`
rest_of : (ram : List ℕ) (r : Range) (skip : ℕ) → InRam ram r.addr r.len → skip < r.len → drop skip (range_bytes ram r) ≡ part_bytes ram r skip (r.len - skip)
rest_of ram r skip h l =
    let a : ℕ = r.addr - 0x80000000 in
    let whole : a + r.len - a ≡ skip + (r.len - skip) = omega arith in
    let place : a + skip ≡ r.addr + skip - 0x80000000 = omega (arith, h.0) in
    let all : r.len - skip ≡ r.addr + skip - 0x80000000 + (r.len - skip) - (r.addr + skip - 0x80000000) = omega arith in
    ap (λ (k : ℕ). drop skip (take k (drop a ram))) whole ∙ (drop-take skip (r.len - skip) (drop a ram) ∙ (ap (take (r.len - skip)) (drop-drop skip a ram) ∙ (ap (λ (k : ℕ). take (r.len - skip) (drop k ram)) place ∙ ap (λ (k : ℕ). take k (drop (r.addr + skip - 0x80000000) ram)) all)))

take_part : (ram : List ℕ) (r : Range) (skip m : ℕ) → skip < r.len → m ≤ r.len - skip → take m (part_bytes ram r skip (r.len - skip)) ≡ part_bytes ram r skip m
take_part ram r skip m l i =
    let p : ℕ = r.addr + skip - 0x80000000 in
    let inner : m ≤ p + (r.len - skip) - p = omega arith in
    let outer : m ≡ p + m - p = omega arith in
    take-take m (p + (r.len - skip) - p) (drop p ram) inner ∙ ap (λ (k : ℕ). take k (drop p ram)) outer

-- what is left of a range, as far as it is wanted, is read, and the rest comes from the ranges behind it
read_part : (ram : List ℕ) (r : Range) (rs : List Range) (skip m n : ℕ) → InRam ram r.addr r.len → skip < r.len → n ≡ min (r.len - skip) m → take m (drop skip (stream ram (r ∷ rs))) ≡ part_bytes ram r skip n ++ take (m - n) (stream ram rs)
read_part ram r rs skip m n h l e =
    let p : List ℕ = part_bytes ram r skip (r.len - skip) in
    let fits : skip ≤ length (range_bytes ram r) = omega (arith, length_range ram r h) in
    let size : length p ≡ r.len - skip = omega (arith, ap length (rest_of ram r skip h l), length-drop skip (range_bytes ram r), length_range ram r h) in
    let front : drop skip (stream ram (r ∷ rs)) ≡ p ++ stream ram rs = drop-append-le skip (range_bytes ram r) (stream ram rs) fits ∙ ap (λ (xs : List ℕ). xs ++ stream ram rs) (rest_of ram r skip h l) in
    ap (take m) front ∙ elim (cases_lt (r.len - skip) m) [
      | inl more ↦ (let k : n ≡ r.len - skip = omega arith in
          let w : m ≡ length p + (m - n) = omega arith in
          ap (λ (j : ℕ). take j (p ++ stream ram rs)) w ∙ (take-append-add p (stream ram rs) (m - n) ∙ ap (λ (j : ℕ). part_bytes ram r skip j ++ take (m - n) (stream ram rs)) (sym k)))
      | inr few ↦ (let k : n ≡ m = omega arith in
          let z : m - n ≡ 0 = omega arith in
          take-append-le m p (stream ram rs) (omega arith) ∙ (take_part ram r skip m l few ∙ (sym (append-nil (part_bytes ram r skip m)) ∙ (ap (λ (j : ℕ). part_bytes ram r skip j ++ []) (sym k) ∙ ap (λ (j : ℕ). part_bytes ram r skip n ++ take j (stream ram rs)) (sym z)))))
    ]

-- how far reading has come: the ranges that are left, the bytes of them to be passed over, and the bytes that stand in `to`
pub record Reading (ram : List ℕ) (rs : List Range) (skip done : ℕ) (to whole : List ℕ) : Type 0 where
  pub within : done ≤ length to
  pub ranges : RangesIn ram rs
  pub inside : skip + (length to - done) ≤ stream_len rs
  pub rest : take done to ++ take (length to - done) (drop skip (stream ram rs)) ≡ whole

pub read_on : (ram : List ℕ) (r : Range) (rs : List Range) (skip done : ℕ) (to whole : List ℕ) → Reading ram (r ∷ rs) skip done to whole → r.len ≤ skip → Reading ram rs (skip - r.len) done to whole
read_on ram r rs skip done to whole v l = record {
  within = v.within;
  ranges = v.ranges.1;
  inside = omega (arith, v.inside, cons_len r rs);
  rest = ap (λ (xs : List ℕ). take done to ++ xs) (sym (read_past ram r rs skip (length to - done) v.ranges.0 l)) ∙ v.rest;
}

pub read_more : (ram : List ℕ) (r : Range) (rs : List Range) (skip done n : ℕ) (to ys whole : List ℕ) → Reading ram (r ∷ rs) skip done to whole → skip < r.len → n ≡ min (r.len - skip) (length to - done) → ys ≡ part_bytes ram r skip n → Reading ram rs 0 (done + n) (put_mid done n to ys) whole
read_more ram r rs skip done n to ys whole v l e y =
    let p : ℕ = r.addr + skip - 0x80000000 in
    let size : length (part_bytes ram r skip n) ≡ p + n - p = len_slice p (p + n) ram (omega (arith, v.ranges.0.0, v.ranges.0.1)) in
    let ly : length ys ≡ n = omega (arith, ap length y, size) in
    let lt : length (put_mid done n to ys) ≡ length to = omega (arith, length-append (take done to) (ys ++ drop n (drop done to)), length-append ys (drop n (drop done to)), length-take-le done to v.within, length-drop n (drop done to), length-drop done to, v.within) in
    let w : length (put_mid done n to ys) - (done + n) ≡ length to - done - n = omega (arith, lt) in
    let t : take (done + n) (put_mid done n to ys) ≡ take done to ++ ys = take-put_mid done n to ys (done + n) (omega arith) v.within in
    record {
      within = omega (arith, lt, v.within);
      ranges = v.ranges.1;
      inside = omega (arith, lt, v.inside, cons_len r rs);
      rest =
          ap (λ (xs : List ℕ). xs ++ take (length (put_mid done n to ys) - (done + n)) (stream ram rs)) t ∙ (ap (λ (j : ℕ). (take done to ++ ys) ++ take j (stream ram rs)) w ∙ (append_assoc (take done to) ys (take (length to - done - n) (stream ram rs)) ∙ (ap (λ (xs : List ℕ). take done to ++ (xs ++ take (length to - done - n) (stream ram rs))) y ∙ (ap (λ (xs : List ℕ). take done to ++ xs) (sym (read_part ram r rs skip (length to - done) n v.ranges.0 l e)) ∙ v.rest))));
    }
