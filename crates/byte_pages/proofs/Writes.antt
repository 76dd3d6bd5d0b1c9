-- Bytes that are put into a list of bytes.
use Rattle.std.proofs.Common.{◌≡◌, ℕ, ◌+◌, ◌≤◌, List, [], ◌++◌, length, take, drop, sym, ap, ◌∙◌, arith, append_assoc}
use Rattle.std.proofs.lemmas.List.{take_at, length-append, length-take-le, length-drop, drop-drop, take-append-drop, append-nil}
use Rattle.std.proofs.Math.Seq.{drop-append-add}
use Rattle.byte_pages.specs.LittleEndian.{with_bytes}

pub with_none : (bytes : List ℕ) (at : ℕ) → with_bytes bytes at [] ≡ bytes
with_none bytes at =
    let e : at + 0 ≡ at = omega arith in
    ap (λ (z : List ℕ). z ++ drop (at + 0) bytes) (append-nil (take at bytes)) ∙ ap (λ (z : ℕ). take at bytes ++ drop z bytes) e ∙ take-append-drop at bytes

pub length_with : (bytes : List ℕ) (at : ℕ) (xs : List ℕ) → at + length xs ≤ length bytes → length (with_bytes bytes at xs) ≡ length bytes
length_with bytes at xs fits =
    omega (arith, length-append (take at bytes ++ xs) (drop (at + length xs) bytes), length-append (take at bytes) xs, length-take-le at bytes (omega arith), length-drop (at + length xs) bytes)

drop_behind : (p q : List ℕ) (n k : ℕ) → length p ≡ n → drop (n + k) (p ++ q) ≡ drop k q
drop_behind p q n k h = ap (λ z. drop (z + k) (p ++ q)) (sym h) ∙ drop-append-add p q k

-- bytes, and then others right behind them
pub two_writes : (bytes xs ys : List ℕ) (at next : ℕ) → next ≡ at + length xs → at + length xs + length ys ≤ length bytes
    → with_bytes (with_bytes bytes at xs) next ys ≡ with_bytes bytes at (xs ++ ys)
two_writes bytes xs ys at next e h =
    let front = take at bytes in
    let rest = drop (at + length xs) bytes in
    let len : length (front ++ xs) ≡ next = length-append front xs ∙ ap (λ n. n + length xs) (length-take-le at bytes (omega arith)) ∙ sym e in
    let before : take next (with_bytes bytes at xs) ≡ front ++ xs = take_at (front ++ xs) rest next len in
    let behind : drop (next + length ys) (with_bytes bytes at xs) ≡ drop (at + length (xs ++ ys)) bytes =
    drop_behind (front ++ xs) rest next (length ys) len ∙ drop-drop (length ys) (at + length xs) bytes
    ∙ ap (λ n. drop n bytes) (let both = length-append xs ys in omega (arith, both)) in
    ap (λ (z : List ℕ). (z ++ ys) ++ drop (next + length ys) (with_bytes bytes at xs)) before
    ∙ ap (λ (z : List ℕ). ((front ++ xs) ++ ys) ++ z) behind
    ∙ ap (λ (z : List ℕ). z ++ drop (at + length (xs ++ ys)) bytes) (append_assoc front xs ys)
