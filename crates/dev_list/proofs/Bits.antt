-- The external lines of devices as a number: f is a device's state.
use Rattle.std.proofs.Common.{◌≡◌, ℕ, ◌<◌, ◌≤◌, ◌+◌, ◌*◌, ◌^◌, Bool, true, false, List, [], ◌∷◌, length, map, drop, get_or, refl, sym, ◌∙◌, ap, subst, arith}
use Rattle.std.proofs.lemmas.List.{drop_all, drop_more, length-drop, length-map}
use Rattle.std.proofs.Math.Nat.{pow-suc, pow-le-pow_right}
use Rattle.csr_file.specs.Csrs.{bit_of}
use Rattle.dev_face.specs.States.{DevState}
use Rattle.dev_face.specs.Calls.{dev_lines}
use Rattle.dev_list.specs.Walks.{external_bits}
use Rattle.dev_list.proofs.Listed.{state_there}

nil_bits : (now : ℕ) → 0 ≡ external_bits [] now
unfolding external_bits
nil_bits now = refl

cons_bits : (s : DevState) (ss : List DevState) (now : ℕ) → external_bits (s ∷ ss) now ≡ 2 * external_bits ss now + bit_of (dev_lines s now).external
unfolding external_bits
cons_bits s ss now = refl

pub bits_none : {B : Type 0} (f : B → DevState) (xs : List B) (n now : ℕ) → length xs ≤ n → 0 ≡ external_bits (drop n (map f xs)) now
bits_none f xs n now h = nil_bits now ∙ ap (λ (ss : List DevState). external_bits ss now) (sym (drop_all n (map f xs) (simp length-map h)))

-- one device more, in front
pub bits_more : {B : Type 0} (f : B → DevState) (xs : List B) (i now bits : ℕ) (x : B) → i < length xs → x ≡ get_or xs i x → bits ≡ external_bits (drop (i + 1) (map f xs)) now →
    2 * bits + bit_of (dev_lines (f x) now).external ≡ external_bits (drop i (map f xs)) now
bits_more f xs i now bits x h e eb =
    ap (λ n. 2 * n + bit_of (dev_lines (f x) now).external) eb ∙ sym (cons_bits (f x) (drop (i + 1) (map f xs)) now)
    ∙ ap (λ (ss : List DevState). external_bits ss now) (sym (drop_more (map f xs) i (f x) (simp length-map h) ∙ ap (λ (s : DevState). s ∷ drop (i + 1) (map f xs)) (state_there f xs i x (f x) h e)))

pub bit_low : (b : Bool) → bit_of b ≤ 1
bit_low true = omega arith
bit_low false = omega arith

-- as many bits as there are devices
below : (ss : List DevState) (now : ℕ) → external_bits ss now < 2 ^ length ss
below [] now = subst (λ n. n < 1) (nil_bits now) (omega arith)
below (s ∷ ss) now =
    let b = bit_low (dev_lines s now).external in
    subst (λ n. n < 2 ^ length (s ∷ ss)) (sym (cons_bits s ss now)) (let h = below ss now in let p = pow-suc 2 (length ss) in omega (arith, h, b, p))

pub bits_low : {B : Type 0} (f : B → DevState) (xs : List B) (n now : ℕ) → length xs ≤ n + 31 → external_bits (drop n (map f xs)) now < 2 ^ 31
bits_low f xs n now h =
    let len : length (drop n (map f xs)) ≤ 31 = omega (arith, length-drop n (map f xs), length-map xs f) in
    let p = below (drop n (map f xs)) now in
    let q : 2 ^ length (drop n (map f xs)) ≤ 2 ^ 31 = pow-le-pow_right (omega arith) len in
    omega (arith, p, q)
