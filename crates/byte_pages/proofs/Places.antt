-- The byte at a place of a list in which some bytes were put anew.
use Rattle.std.proofs.Common.{◌≡◌, ℕ, suc, ◌+◌, ◌-◌, ◌<◌, ◌≤◌, List, [], ◌∷◌, ◌++◌, length, take, drop, slice_index, slice_range, slice_set, sym, ap, ◌∙◌, arith, append_assoc}
use Rattle.std.proofs.lemmas.List.{length-append, length-take-le, get_or_append_left, get_or-append_right, get_or-take, get_or-drop, set_split, drop-drop, length-drop}
use Rattle.std.proofs.lemmas.Slice.{take-put_mid}
use borrow.Rule.Slice.PartMut.{put_mid}
use Rattle.std.proofs.Math.Seq.{take-add}
use Rattle.byte_pages.specs.LittleEndian.{with_bytes}
use Rattle.byte_pages.proofs.Writes.{two_writes}

front_len : (bytes : List ℕ) (at : ℕ) (xs : List ℕ) → at ≤ length bytes → length (take at bytes ++ xs) ≡ at + length xs
front_len bytes at xs h = length-append (take at bytes) xs ∙ ap (λ (n : ℕ). n + length xs) (length-take-le at bytes h)

pub with_below : (bytes : List ℕ) (at : ℕ) (xs : List ℕ) (i : ℕ) → at ≤ length bytes → i < at → slice_index (with_bytes bytes at xs) i ≡ slice_index bytes i
with_below bytes at xs i h l =
    let front = length-take-le at bytes h in
    let both = front_len bytes at xs h in
    get_or_append_left (take at bytes ++ xs) (drop (at + length xs) bytes) 0 i (omega (arith, both, l)) ∙ get_or_append_left (take at bytes) xs 0 i (omega (arith, front, l)) ∙ get_or-take at bytes i 0 l

pub with_inside : (bytes : List ℕ) (at : ℕ) (xs : List ℕ) (i : ℕ) → at ≤ length bytes → at ≤ i → i < at + length xs → slice_index (with_bytes bytes at xs) i ≡ slice_index xs (i - at)
with_inside bytes at xs i h l m =
    let both = front_len bytes at xs h in
    get_or_append_left (take at bytes ++ xs) (drop (at + length xs) bytes) 0 i (omega (arith, both, m)) ∙ get_or-append_right (take at bytes) xs at i 0 (length-take-le at bytes h) l

pub with_above : (bytes : List ℕ) (at : ℕ) (xs : List ℕ) (i : ℕ) → at ≤ length bytes → at + length xs ≤ i → slice_index (with_bytes bytes at xs) i ≡ slice_index bytes i
with_above bytes at xs i h l =
    let e : at + length xs + (i - (at + length xs)) ≡ i = omega (arith, l) in
    get_or-append_right (take at bytes ++ xs) (drop (at + length xs) bytes) (at + length xs) i 0 (front_len bytes at xs h) l
    ∙ get_or-drop (at + length xs) bytes (i - (at + length xs)) 0 ∙ ap (slice_index bytes) e

-- one byte put is a list of one byte put
pub set_is_with : (bytes : List ℕ) (at v : ℕ) → at < length bytes → slice_set bytes at v ≡ with_bytes bytes at (v ∷ [])
set_is_with bytes at v h =
    let e : suc at ≡ at + length (v ∷ []) = omega arith in
    set_split bytes at v h ∙ ap (λ (n : ℕ). take at bytes ++ (v ∷ drop n bytes)) e ∙ sym (append_assoc (take at bytes) (v ∷ []) (drop (at + length (v ∷ [])) bytes))

-- a range, and the one right behind it
pub two_ranges : {X : Type 0} (xs : List X) (at m n : ℕ) → slice_range xs at (at + m) ++ slice_range xs (at + m) (at + m + n) ≡ slice_range xs at (at + (m + n))
two_ranges xs at m n =
    let a : at + m - at ≡ m = omega arith in
    let b : at + m + n - (at + m) ≡ n = omega arith in
    let c : at + (m + n) - at ≡ m + n = omega arith in
    ap (λ (k : ℕ). take k (drop at xs) ++ slice_range xs (at + m) (at + m + n)) a ∙ ap (λ (k : ℕ). take m (drop at xs) ++ take k (drop (at + m) xs)) b
    ∙ ap (λ z. take m (drop at xs) ++ take n z) (sym (drop-drop m at xs)) ∙ sym (take-add m n (drop at xs)) ∙ ap (λ (k : ℕ). take k (drop at xs)) (sym c)

-- a piece is read right behind what was read
pub read_more : (bytes to piece : List ℕ) (at done n m : ℕ) → done + n ≤ length to → at + (done + n) ≤ length bytes → m ≡ n → take done to ≡ slice_range bytes at (at + done)
    → piece ≡ slice_range bytes (at + done) (at + done + m) → take (done + n) (put_mid done (done + n - done) to piece) ≡ slice_range bytes at (at + (done + n))
read_more bytes to piece at done n m fits inside e before now =
    let k : at + done + m - (at + done) ≡ n = omega (arith, e) in
    let rest = length-drop (at + done) bytes in
    let long : length piece ≡ n = ap (length {A = ℕ}) now ∙ ap (λ (j : ℕ). length (take j (drop (at + done) bytes))) k ∙ length-take-le n (drop (at + done) bytes) (omega (arith, rest, inside)) in
    take-put_mid done (done + n - done) to piece (done + n) (omega (arith, long)) (omega (arith, fits))
    ∙ ap (λ (xs : List ℕ). xs ++ piece) before ∙ ap (λ (xs : List ℕ). slice_range bytes at (at + done) ++ xs) now
    ∙ ap (λ (j : ℕ). slice_range bytes at (at + done) ++ slice_range bytes (at + done) (at + done + j)) e ∙ two_ranges bytes at done n

-- a piece is written right behind what was written
pub write_more : (bytes now new from : List ℕ) (at done n : ℕ) → done + n ≤ length from → at + length from ≤ length bytes → now ≡ with_bytes bytes at (take done from)
    → new ≡ with_bytes now (at + done) (slice_range from done (done + n)) → new ≡ with_bytes bytes at (take (done + n) from)
write_more bytes now new from at done n fits inside before after =
    let k : done + n - done ≡ n = omega arith in
    let front = length-take-le done from (omega (arith, fits)) in
    let rest = length-drop done from in
    let part = length-take-le n (drop done from) (omega (arith, rest, fits)) in
    after ∙ ap (λ (b : List ℕ). with_bytes b (at + done) (slice_range from done (done + n))) before
    ∙ ap (λ (j : ℕ). with_bytes (with_bytes bytes at (take done from)) (at + done) (take j (drop done from))) k
    ∙ two_writes bytes (take done from) (take n (drop done from)) at (at + done) (omega (arith, front)) (omega (arith, front, part, fits, inside))
    ∙ ap (with_bytes bytes at) (sym (take-add done n from))
