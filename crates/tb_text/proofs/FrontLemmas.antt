-- A text of characters of one kind is fixed by a text that begins with it, and so is what follows it.
use Rattle.std.proofs.Common.{◌≡◌, ◌∙◌, ℕ, ◌<◌, ◌^◌, ◌/◌, ◌%◌, ◌-◌, List, [], ◌∷◌, ◌++◌, Bool, true, refl, sym, ap, ap₂, arith, length, drop, get_or}
use Rattle.std.specs.Prelude.{nat_le, ◌==◌, if◌then◌else◌, nat_lt}
use Rattle.std.specs.List.{list_all}
use Rattle.std.specs.Fmt.{decimal}
use Rattle.std.specs.Str.Parse.{AllDigits}
use Rattle.std.proofs.lemmas.Bool.{and_parts, and_from, le-leb, agree_below_at, eqb-true}
use Rattle.std.proofs.lemmas.Fmt.{decimal_is_IsNumeral, decimal_injective, decimal_nonempty}
use Rattle.std.proofs.lemmas.Str.Parse.{digit_from_value}
use Rattle.std.proofs.lemmas.Nat.{shr-shr}
use Rattle.tb_text.specs.Fronts.{StartsOff, is_digit}
use Rattle.tb_text.specs.Hex.{hex_digit, hex2, hex8}

-- both begin with texts of the kind, and go on with another character or end
pub split_front : (p : ℕ → Bool) (ds es x y : List ℕ) → list_all p ds ≡ true → list_all p es ≡ true → StartsOff p x → StartsOff p y
    → ds ++ x ≡ es ++ y → (ds ≡ es) × (x ≡ y)
split_front p [] [] x y a b s t h = (refl, h)
split_front p [] (e ∷ es) [] y a b s t h = absurd (cc h)
split_front p [] (e ∷ es) (c ∷ cs) y a b s t h =
    let same : c ≡ e = ap (λ (l : List ℕ). get_or l 0 0) h in
    absurd (cc (same, s, (and_parts (p e) (list_all p es) b).0))
split_front p (d ∷ ds) [] x [] a b s t h = absurd (cc h)
split_front p (d ∷ ds) [] x (c ∷ cs) a b s t h =
    let same : d ≡ c = ap (λ (l : List ℕ). get_or l 0 0) h in
    absurd (cc (same, t, (and_parts (p d) (list_all p ds) a).0))
split_front p (d ∷ ds) (e ∷ es) x y a b s t h =
    let rest = split_front p ds es x y (and_parts (p d) (list_all p ds) a).1 (and_parts (p e) (list_all p es) b).1 s t (ap (drop 1) h) in
    (ap₂ (λ (c : ℕ) (cs : List ℕ). c ∷ cs) (ap (λ (l : List ℕ). get_or l 0 0) h) rest.0, rest.1)

digits_pass : (ds : List ℕ) → AllDigits 10 ds → list_all is_digit ds ≡ true
digits_pass [] h = refl
digits_pass (c ∷ cs) h =
    let range = digit_from_value c h.0 in
    and_from (is_digit c) (list_all is_digit cs) (and_from (nat_le 48 c) (nat_le c 57) (le-leb 48 c (omega (arith, range))) (le-leb c 57 (omega (arith, range)))) (digits_pass cs h.1)

pub decimal_digits : (n : ℕ) → n < 2 ^ 64 → list_all is_digit (decimal n) ≡ true
decimal_digits n small = digits_pass (decimal n) (decimal_is_IsNumeral n small).0.1

-- a decimal that no digit follows
pub decimal_front : (m n : ℕ) (x y : List ℕ) → m < 2 ^ 64 → n < 2 ^ 64 → StartsOff is_digit x → StartsOff is_digit y
    → decimal m ++ x ≡ decimal n ++ y → (m ≡ n) × (x ≡ y)
decimal_front m n x y a b s t h =
    let parts = split_front is_digit (decimal m) (decimal n) x y (decimal_digits m a) (decimal_digits n b) s t h in
    (decimal_injective m n a b parts.0, parts.1)

-- a text of the kind that is not empty begins with the kind
starts_on : (p : ℕ → Bool) (ds z : List ℕ) → 0 < length ds → list_all p ds ≡ true → StartsOff p (ds ++ z) → ⊥
starts_on p [] z some a s = absurd (omega arith)
starts_on p (d ∷ ds) z some a s = absurd (cc (s, (and_parts (p d) (list_all p ds) a).0))

pub decimal_starts : (n : ℕ) (z : List ℕ) → n < 2 ^ 64 → StartsOff is_digit (decimal n ++ z) → ⊥
decimal_starts n z small s = starts_on is_digit (decimal n) z (decimal_nonempty n small) (decimal_digits n small) s

-- the number of a hex digit
abbrev digit_number : ℕ → ℕ
digit_number c = if nat_lt c 58 then c - 48 else c - 87

read_back : (d : ℕ) → d < 16 → digit_number (hex_digit d) ≡ d
read_back d small = eqb-true (digit_number (hex_digit d)) d (agree_below_at (λ n. digit_number (hex_digit n) == n) (λ n. true) 16 d refl small)

pub hex_digit_injective : (a b : ℕ) → a < 16 → b < 16 → hex_digit a ≡ hex_digit b → a ≡ b
hex_digit_injective a b s t h = sym (read_back a s) ∙ ap digit_number h ∙ read_back b t

-- a byte in hex, whatever follows
pub hex2_front : (a b : ℕ) (x y : List ℕ) → a < 256 → b < 256 → hex2 a ++ x ≡ hex2 b ++ y → (a ≡ b) × (x ≡ y)
hex2_front a b x y s t h =
    let high = hex_digit_injective (a / 16) (b / 16) (omega arith) (omega arith) (ap (λ (l : List ℕ). get_or l 0 0) h) in
    let low = hex_digit_injective (a % 16) (b % 16) (omega arith) (omega arith) (ap (λ (l : List ℕ). get_or l 1 0) h) in
    (omega (arith, high, low), ap (drop 2) h)

joined : (a b : ℕ) → a / 16 ≡ b / 16 → a % 16 ≡ b % 16 → a ≡ b
joined a b h l = omega arith

-- a word in hex, whatever follows
pub hex8_front : (a b : ℕ) (x y : List ℕ) → a < 2 ^ 32 → b < 2 ^ 32 → hex8 a ++ x ≡ hex8 b ++ y → (a ≡ b) × (x ≡ y)
hex8_front a b x y s t h =
    let at : (i : ℕ) → get_or (hex8 a ++ x) i 0 ≡ get_or (hex8 b ++ y) i 0 = λ i. ap (λ (l : List ℕ). get_or l i 0) h in
    let e7 : a / 2 ^ 28 ≡ b / 2 ^ 28 = hex_digit_injective (a / 2 ^ 28) (b / 2 ^ 28) (omega arith) (omega arith) (at 0) in
    let e6 : a / 2 ^ 24 ≡ b / 2 ^ 24 = joined (a / 2 ^ 24) (b / 2 ^ 24) (shr-shr a 24 4 ∙ e7 ∙ sym (shr-shr b 24 4)) (hex_digit_injective _ _ (omega arith) (omega arith) (at 1)) in
    let e5 : a / 2 ^ 20 ≡ b / 2 ^ 20 = joined (a / 2 ^ 20) (b / 2 ^ 20) (shr-shr a 20 4 ∙ e6 ∙ sym (shr-shr b 20 4)) (hex_digit_injective _ _ (omega arith) (omega arith) (at 2)) in
    let e4 : a / 2 ^ 16 ≡ b / 2 ^ 16 = joined (a / 2 ^ 16) (b / 2 ^ 16) (shr-shr a 16 4 ∙ e5 ∙ sym (shr-shr b 16 4)) (hex_digit_injective _ _ (omega arith) (omega arith) (at 3)) in
    let e3 : a / 2 ^ 12 ≡ b / 2 ^ 12 = joined (a / 2 ^ 12) (b / 2 ^ 12) (shr-shr a 12 4 ∙ e4 ∙ sym (shr-shr b 12 4)) (hex_digit_injective _ _ (omega arith) (omega arith) (at 4)) in
    let e2 : a / 2 ^ 8 ≡ b / 2 ^ 8 = joined (a / 2 ^ 8) (b / 2 ^ 8) (shr-shr a 8 4 ∙ e3 ∙ sym (shr-shr b 8 4)) (hex_digit_injective _ _ (omega arith) (omega arith) (at 5)) in
    let e1 : a / 2 ^ 4 ≡ b / 2 ^ 4 = joined (a / 2 ^ 4) (b / 2 ^ 4) (shr-shr a 4 4 ∙ e2 ∙ sym (shr-shr b 4 4)) (hex_digit_injective _ _ (omega arith) (omega arith) (at 6)) in
    (joined a b e1 (hex_digit_injective _ _ (omega arith) (omega arith) (at 7)), ap (drop 8) h)
