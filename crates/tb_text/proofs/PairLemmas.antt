-- The hex digits of a number, from the pairs of its bytes.
use Rattle.std.proofs.Common.{◌≡◌, ℕ, ◌<◌, ◌^◌, ◌*◌, ◌+◌, ◌/◌, ◌%◌, [], ◌∷◌, true, refl, arith}
use Rattle.std.specs.Prelude.{◌==◌, slice_index_or}
use Rattle.std.proofs.lemmas.Bool.{agree_below_at, eqb-true}
use Rattle.tb_text.specs.Hex.{hex_digit, hex8}
use Rattle.tb_text.specs.declared.hex.TheConstants.{PAIRS}

-- the table has the two digits of each byte
pub high_of_pair : (b : ℕ) → b < 256 → slice_index_or PAIRS.now (2 * b) 0 ≡ hex_digit (b / 16)
high_of_pair b small =
    eqb-true (slice_index_or PAIRS.now (2 * b) 0) (hex_digit (b / 16))
    (agree_below_at (λ n. slice_index_or PAIRS.now (2 * n) 0 == hex_digit (n / 16)) (λ n. true) 256 b refl small)

pub low_of_pair : (b : ℕ) → b < 256 → slice_index_or PAIRS.now (2 * b + 1) 0 ≡ hex_digit (b % 16)
low_of_pair b small =
    eqb-true (slice_index_or PAIRS.now (2 * b + 1) 0) (hex_digit (b % 16))
    (agree_below_at (λ n. slice_index_or PAIRS.now (2 * n + 1) 0 == hex_digit (n % 16)) (λ n. true) 256 b refl small)

eight : (a b c d e f g h i j k l m n o p : ℕ) → a ≡ i → b ≡ j → c ≡ k → d ≡ l → e ≡ m → f ≡ n → g ≡ o → h ≡ p
    → hex_digit a ∷ hex_digit b ∷ hex_digit c ∷ hex_digit d ∷ hex_digit e ∷ hex_digit f ∷ hex_digit g ∷ hex_digit h ∷ []
    ≡ hex_digit i ∷ hex_digit j ∷ hex_digit k ∷ hex_digit l ∷ hex_digit m ∷ hex_digit n ∷ hex_digit o ∷ hex_digit p ∷ []
eight a b c d e f g h i j k l m n o p q r s t u v w x = cc

pub by_bytes : (v : ℕ) → v < 2 ^ 32
    → hex_digit (v / 2 ^ 24 / 16) ∷ hex_digit (v / 2 ^ 24 % 16) ∷ hex_digit (v / 2 ^ 16 % 256 / 16) ∷ hex_digit (v / 2 ^ 16 % 256 % 16)
    ∷ hex_digit (v / 2 ^ 8 % 256 / 16) ∷ hex_digit (v / 2 ^ 8 % 256 % 16) ∷ hex_digit (v % 256 / 16) ∷ hex_digit (v % 256 % 16) ∷ [] ≡ hex8 v
by_bytes v small = eight _ _ _ _ _ _ _ _ _ _ _ _ _ _ _ _
    (omega arith) (omega arith) (omega arith) (omega arith) (omega arith) (omega arith) (omega arith) (omega arith)
