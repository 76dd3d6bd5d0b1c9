-- Arithmetic on words of 32 bits (RISC-V unprivileged manual, section "Integer Computational
-- Instructions" and chapter "M"). A word is a number below 2 ^ 32, and `signed` is its value as a signed
-- number in two's complement.
use Rattle.std.specs.Prelude.{ℕ, ◌+◌, ◌*◌, ◌/◌, ◌%◌, ◌^◌, nat_lt, ◌==◌, ◌&&◌, if◌then◌else◌, Bool, ℤ, pos, ◌*ℤ◌, int_lt}
use Rattle.std.specs.Int.{w32, cast_signed, cast_unsigned, int_shr}
use Rattle.std.specs.Int.RustNames.{int_div, int_rem}

abbrev pub signed : ℕ → ℤ
signed a = cast_signed w32 a

-- the word of a signed number
abbrev pub word_of : ℤ → ℕ
word_of z = cast_unsigned w32 z

-- shifts by the low five bits of the second word: left, right with zeros, right with the sign
abbrev pub word_sll : ℕ → ℕ → ℕ
word_sll a b = (a * 2 ^ (b % 32)) % 2 ^ 32

abbrev pub word_srl : ℕ → ℕ → ℕ
word_srl a b = a / 2 ^ (b % 32)

abbrev pub word_sra : ℕ → ℕ → ℕ
word_sra a b = word_of (int_shr (signed a) (b % 32))

-- comparisons, signed and unsigned
abbrev pub word_slt : ℕ → ℕ → Bool
word_slt a b = int_lt (signed a) (signed b)

abbrev pub word_sltu : ℕ → ℕ → Bool
word_sltu a b = nat_lt a b

-- the high words of products: signed, signed by unsigned, unsigned
abbrev pub word_mulh : ℕ → ℕ → ℕ
word_mulh a b = word_of (int_shr (signed a *ℤ signed b) 32)

abbrev pub word_mulhsu : ℕ → ℕ → ℕ
word_mulhsu a b = word_of (int_shr (signed a *ℤ pos b) 32)

abbrev pub word_mulhu : ℕ → ℕ → ℕ
word_mulhu a b = a * b / 2 ^ 32

-- the least word divided by -1
abbrev pub overflows : ℕ → ℕ → Bool
overflows a b = a == 0x80000000 && b == 0xffffffff

-- Quotients and remainders. A quotient by 0 is all ones, and a remainder by 0 is the dividend. Where the
-- signed quotient overflows it is the dividend, and the remainder is 0.
abbrev pub word_div : ℕ → ℕ → ℕ
word_div a b = if b == 0 then 0xffffffff else if overflows a b then 0x80000000 else word_of (int_div (signed a) (signed b))

abbrev pub word_divu : ℕ → ℕ → ℕ
word_divu a b = if b == 0 then 0xffffffff else a / b

abbrev pub word_rem : ℕ → ℕ → ℕ
word_rem a b = if b == 0 then a else if overflows a b then 0 else word_of (int_rem (signed a) (signed b))

abbrev pub word_remu : ℕ → ℕ → ℕ
word_remu a b = if b == 0 then a else a % b

-- the low byte and the low half word, with their sign
abbrev pub word_sext8 : ℕ → ℕ
word_sext8 a = if nat_lt (a % 0x100) 0x80 then a % 0x100 else a % 0x100 + 0xffffff00

abbrev pub word_sext16 : ℕ → ℕ
word_sext16 a = if nat_lt (a % 0x10000) 0x8000 then a % 0x10000 else a % 0x10000 + 0xffff0000
