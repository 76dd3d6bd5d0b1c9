-- One table holds the readable ranges of a chain, and behind them the writable ones.
use Rattle.std.proofs.Common.{◌≡◌, ℕ, ◌+◌, ◌<◌, ◌≤◌, List, [], ◌∷◌, ◌++◌, length, take, drop, set, get_or, slice_range, sym, ap, ◌∙◌, arith}
use Rattle.std.proofs.lemmas.List.{length-set, length-take-le, take-set, take-set-le, take_more_set, get_or-set_same}
use Rattle.std.proofs.lemmas.List.Edits.{between_none, between_more, length-between}
use Rattle.std.proofs.lemmas.Slice.{between_is}
use Rattle.split_queue.specs.declared.range.Range.{Range}
use Rattle.split_queue.specs.Chains.{ChainOf, chain_of}

-- a chain with room has a place for one more range
pub room_left : (h reads count : ℕ) (xs : List Range) (c : ChainOf) → chain_of h (take reads xs) (slice_range xs reads count) ≡ c → reads ≤ count → count ≤ 64 → length xs ≡ 64 → length c.readable + length c.writable < 64 → count < 64
room_left h reads count xs c e le fits all room =
    let r : length (take reads xs) ≡ length c.readable = ap (λ (x : ChainOf). length x.readable) e in
    let w : length (slice_range xs reads count) ≡ length c.writable = ap (λ (x : ChainOf). length x.writable) e in
    omega (arith, r, w, length-take-le reads xs (omega arith), length-between xs reads count (omega arith))

-- with no writable range, one more readable one
pub readable_added : (h reads count : ℕ) (xs : List Range) (r : Range) (c : ChainOf) → chain_of h (take reads xs) (slice_range xs reads count) ≡ c → reads ≤ count → count < length xs → c.writable ≡ [] →
    chain_of h (take (count + 1) (set xs count r)) (slice_range (set xs count r) (count + 1) (count + 1)) ≡ chain_of c.head (c.readable ++ r ∷ []) c.writable
readable_added h reads count xs r c e le l none =
    let w : slice_range xs reads count ≡ [] = ap (λ (x : ChainOf). x.writable) e ∙ none in
    let same : reads ≡ count = omega (arith, ap (λ (ys : List Range). length ys) w, length-between xs reads count (omega arith)) in
    let t : take (count + 1) (set xs count r) ≡ take reads xs ++ r ∷ [] = take_more_set xs count r l ∙ ap (λ (k : ℕ). take k xs ++ r ∷ []) (sym same) in
    let z : slice_range (set xs count r) (count + 1) (count + 1) ≡ slice_range xs reads count = between_none (set xs count r) (count + 1) ∙ sym w in
    ap (λ (ys : List Range). chain_of h ys (slice_range (set xs count r) (count + 1) (count + 1))) t ∙ (ap (λ (ys : List Range). chain_of h (take reads xs ++ r ∷ []) ys) z ∙ ap (λ (x : ChainOf). chain_of x.head (x.readable ++ r ∷ []) x.writable) e)

-- one more writable range
pub writable_added : (h reads count : ℕ) (xs : List Range) (r : Range) (c : ChainOf) → chain_of h (take reads xs) (slice_range xs reads count) ≡ c → reads ≤ count → count < length xs →
    chain_of h (take reads (set xs count r)) (slice_range (set xs count r) reads (count + 1)) ≡ chain_of c.head c.readable (c.writable ++ r ∷ [])
writable_added h reads count xs r c e le l =
    let ys : List Range = set xs count r in
    let t : take reads ys ≡ take reads xs = take-set-le reads xs count r le in
    let before : slice_range ys reads count ≡ slice_range xs reads count = between_is ys reads count ∙ (ap (drop reads) (take-set xs count r) ∙ sym (between_is xs reads count)) in
    let more : slice_range ys reads (count + 1) ≡ slice_range ys reads count ++ get_or ys count r ∷ [] = between_more ys reads count r le (omega (arith, length-set xs count r)) in
    let z : slice_range ys reads (count + 1) ≡ slice_range xs reads count ++ r ∷ [] = more ∙ (ap (λ (zs : List Range). zs ++ get_or ys count r ∷ []) before ∙ ap (λ (x : Range). slice_range xs reads count ++ x ∷ []) (get_or-set_same xs count r r l)) in
    ap (λ (zs : List Range). chain_of h zs (slice_range ys reads (count + 1))) t ∙ (ap (λ (zs : List Range). chain_of h (take reads xs) zs) z ∙ ap (λ (x : ChainOf). chain_of x.head x.readable (x.writable ++ r ∷ [])) e)

-- no more than the whole table
pub readable_few : (reads count : ℕ) (xs : List Range) → reads ≤ count → count ≤ 64 → length xs ≡ 64 → length (take reads xs) ≤ 64
readable_few reads count xs le fits all = omega (arith, length-take-le reads xs (omega arith))

pub writable_few : (reads count : ℕ) (xs : List Range) → reads ≤ count → count ≤ 64 → length xs ≡ 64 → length (slice_range xs reads count) ≤ 64
writable_few reads count xs le fits all = omega (arith, length-between xs reads count (omega arith))
