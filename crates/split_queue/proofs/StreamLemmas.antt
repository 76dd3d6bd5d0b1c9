-- How long streams are, and ranges in RAM.
use Rattle.std.proofs.Common.{◌≡◌, ℕ, ◌+◌, ◌*◌, ◌-◌, ◌≤◌, ◌^◌, List, [], ◌∷◌, length, drop, slice_range, arith}
use Rattle.std.proofs.lemmas.List.{length-take-le, length-drop}
use Rattle.std.proofs.lemmas.List.Sums.{sum_by-cons}
use Rattle.split_queue.specs.Sizes.{InRam}
use Rattle.split_queue.specs.declared.range.Range.{Range}
use Rattle.split_queue.specs.Streams.{range_bytes, stream_len, RangesIn, RangesFit}

pub cons_len : (r : Range) (rs : List Range) → stream_len (r ∷ rs) ≡ r.len + stream_len rs
cons_len r rs = sum_by-cons (λ (x : Range). x.len) r rs

stream_fits : (n : ℕ) (rs : List Range) → RangesFit n rs → stream_len rs ≤ 16777216 * length rs
stream_fits n [] h = omega arith
stream_fits n (r ∷ rs) h = omega (arith, cons_len r rs, h.0.0, h.0.1, h.0.2, stream_fits n rs h.1)

pub stream_below : (n : ℕ) (rs : List Range) → length rs ≤ 64 → RangesFit n rs → stream_len rs ≤ 2 ^ 30
stream_below n rs l h = omega (arith, stream_fits n rs h)

pub ranges_same : (ram ram' : List ℕ) (rs : List Range) → length ram' ≡ length ram → RangesIn ram rs → RangesIn ram' rs
ranges_same ram ram' [] e h = tt
ranges_same ram ram' (r ∷ rs) e h = ((h.0.0, omega (arith, h.0.1), omega (arith, h.0.2)), ranges_same ram ram' rs e h.1)

pub len_slice : (f t : ℕ) (xs : List ℕ) → t ≤ length xs → length (slice_range xs f t) ≡ t - f
len_slice f t xs h =
    let n : t - f ≤ length (drop f xs) = omega (arith, length-drop f xs) in
    length-take-le (t - f) (drop f xs) n

pub length_range : (ram : List ℕ) (r : Range) → InRam ram r.addr r.len → length (range_bytes ram r) ≡ r.len
length_range ram r h =
    let k : length (range_bytes ram r) ≡ r.addr - 0x80000000 + r.len - (r.addr - 0x80000000) = len_slice (r.addr - 0x80000000) (r.addr - 0x80000000 + r.len) ram (omega (arith, h.0, h.1)) in
    omega arith
