-- A number is read as a slice of RAM.
use Rattle.std.proofs.Common.{◌≡◌, ℕ, ◌+◌, ◌*◌, ◌-◌, ◌<◌, ◌≤◌, List, get_or, slice_range, refl, ap, ◌∙◌, arith}
use Rattle.std.proofs.lemmas.List.Edits.{get_or-between}
use Rattle.split_queue.specs.Rings.{byte_at, le16, le32, le64}

-- xs is the n bytes from an address on
abbrev pub IsRead : List ℕ → ℕ → ℕ → List ℕ → Type 0
IsRead ram addr n xs = (0x80000000 ≤ addr) × (xs ≡ slice_range ram (addr - 0x80000000) (addr - 0x80000000 + n))

byte_read : (ram xs : List ℕ) (addr n k a : ℕ) → IsRead ram addr n xs → k < n → a ≡ addr + k → get_or xs k 0 ≡ byte_at ram a
unfolding byte_at
byte_read ram xs addr n k a h l e =
    let i : ℕ = addr - 0x80000000 in
    let same : i + k ≡ a - 0x80000000 = omega (arith, h.0, e) in
    ap (λ (ys : List ℕ). get_or ys k 0) h.1 ∙ (get_or-between ram i (i + n) k 0 (omega (arith, l)) ∙ ap (λ (j : ℕ). get_or ram j 0) same)

le16_sum : (ram : List ℕ) (a : ℕ) → le16 ram a ≡ byte_at ram a + 0x100 * byte_at ram (a + 1)
unfolding le16
le16_sum ram a = refl

le32_sum : (ram : List ℕ) (a : ℕ) → le32 ram a ≡ le16 ram a + 0x10000 * le16 ram (a + 2)
unfolding le32
le32_sum ram a = refl

le64_sum : (ram : List ℕ) (a : ℕ) → le64 ram a ≡ le32 ram a + 0x100000000 * le32 ram (a + 4)
unfolding le64
le64_sum ram a = refl

half_read : (ram xs : List ℕ) (addr n k a : ℕ) → IsRead ram addr n xs → k + 1 < n → a ≡ addr + k → get_or xs k 0 + 0x100 * get_or xs (k + 1) 0 ≡ le16 ram a
half_read ram xs addr n k a h l e =
    omega (arith, le16_sum ram a, byte_read ram xs addr n k a h (omega (arith, l)) e, byte_read ram xs addr n (k + 1) (a + 1) h l (omega (arith, e)))

word_read : (ram xs : List ℕ) (addr n k a : ℕ) → IsRead ram addr n xs → k + 3 < n → a ≡ addr + k →
    get_or xs k 0 + 0x100 * get_or xs (k + 1) 0 + (0x10000 * get_or xs (k + 2) 0 + 0x1000000 * get_or xs (k + 2 + 1) 0) ≡ le32 ram a
word_read ram xs addr n k a h l e =
    omega (arith, le32_sum ram a, half_read ram xs addr n k a h (omega (arith, l)) e, half_read ram xs addr n (k + 2) (a + 2) h (omega (arith, l)) (omega (arith, e)))

-- the number of two, of four and of eight bytes
pub two_read : (ram xs : List ℕ) (addr : ℕ) → IsRead ram addr 2 xs → get_or xs 0 0 + get_or xs 1 0 * 0x100 ≡ le16 ram addr
two_read ram xs addr h =
    let t : get_or xs 0 0 + 0x100 * get_or xs 1 0 ≡ le16 ram addr = half_read ram xs addr 2 0 addr h (omega arith) (omega arith) in
    omega (arith, t)

pub four_read : (ram xs : List ℕ) (addr : ℕ) → IsRead ram addr 4 xs → get_or xs 0 0 + get_or xs 1 0 * 0x100 + get_or xs 2 0 * 0x10000 + get_or xs 3 0 * 0x1000000 ≡ le32 ram addr
four_read ram xs addr h =
    let t : get_or xs 0 0 + 0x100 * get_or xs 1 0 + (0x10000 * get_or xs 2 0 + 0x1000000 * get_or xs 3 0) ≡ le32 ram addr = word_read ram xs addr 4 0 addr h (omega arith) (omega arith) in
    omega (arith, t)

pub eight_read : (ram xs : List ℕ) (addr : ℕ) → IsRead ram addr 8 xs →
    get_or xs 0 0 + get_or xs 1 0 * 0x100 + get_or xs 2 0 * 0x10000 + get_or xs 3 0 * 0x1000000 + get_or xs 4 0 * 0x100000000 + get_or xs 5 0 * 0x10000000000 + get_or xs 6 0 * 0x1000000000000 + get_or xs 7 0 * 0x100000000000000 ≡ le64 ram addr
eight_read ram xs addr h =
    let low : get_or xs 0 0 + 0x100 * get_or xs 1 0 + (0x10000 * get_or xs 2 0 + 0x1000000 * get_or xs 3 0) ≡ le32 ram addr = word_read ram xs addr 8 0 addr h (omega arith) (omega arith) in
    let high : get_or xs 4 0 + 0x100 * get_or xs 5 0 + (0x10000 * get_or xs 6 0 + 0x1000000 * get_or xs 7 0) ≡ le32 ram (addr + 4) = word_read ram xs addr 8 4 (addr + 4) h (omega arith) (omega arith) in
    omega (arith, le64_sum ram addr, low, high)
