-- The fields that are read from a word are those that it was made of.
use Rattle.std.proofs.Common.{◌≡◌, ℕ, ◌<◌, ◌+◌, ◌*◌, ◌/◌, ◌%◌, ◌^◌, ℤ, pos, negsuc, ◌∙◌, ap, arith}
use Rattle.std.proofs.lemmas.Int.{ints}
use Rattle.std.specs.Int.{w32, cast_unsigned, cast_signed}
use Rattle.rv_word.specs.Ranges.{IsSigned, IsMultiple}
use Rattle.rv_word.specs.Fields.{rd_of, rs1_of, rs2_of, sign_extend, imm_i, imm_s, imm_b, imm_u, imm_j}
use Rattle.guest_asm.specs.Layout.{word_of, r_word, branch_high, branch_low, jump_bits}

pub record Fields (w u r f d o : ℕ) : Type 0 where
  pub short : w < 2 ^ 32
  pub opcode : w % 128 ≡ o
  pub funct3 : w / 2 ^ 12 % 8 ≡ f
  pub upper : w / 2 ^ 20 ≡ u
  pub rs1 : rs1_of w ≡ r
  pub rd : rd_of w ≡ d

pub fields : (w upper rs1 funct3 rd opcode : ℕ) → w ≡ word_of upper rs1 funct3 rd opcode → upper < 2 ^ 12 → rs1 < 32 → funct3 < 8 → rd < 32 → opcode < 128 → Fields w upper rs1 funct3 rd opcode
fields w upper rs1 funct3 rd opcode e a b c d h = record {
  short = omega arith;
  opcode = omega arith;
  funct3 = omega arith;
  upper = omega arith;
  rs1 = omega arith;
  rd = omega arith;
}

pub record RegisterFields (w f7 r2 r1 f3 d o : ℕ) : Type 0 where
  pub short : w < 2 ^ 32
  pub opcode : w % 128 ≡ o
  pub funct3 : w / 2 ^ 12 % 8 ≡ f3
  pub funct7 : w / 2 ^ 25 ≡ f7
  pub rs2 : rs2_of w ≡ r2
  pub rs1 : rs1_of w ≡ r1
  pub rd : rd_of w ≡ d

pub register_fields : (w funct7 rs2 rs1 funct3 rd opcode : ℕ) → w ≡ r_word funct7 rs2 rs1 funct3 rd opcode → funct7 < 128 → rs2 < 32 → rs1 < 32 → funct3 < 8 → rd < 32 → opcode < 128 → RegisterFields w funct7 rs2 rs1 funct3 rd opcode
register_fields w funct7 rs2 rs1 funct3 rd opcode e a b c d h i =
    let f = fields w (funct7 * 2 ^ 5 + rs2) rs1 funct3 rd opcode e (omega arith) c d h i in
    record {
      short = f.short;
      opcode = f.opcode;
      funct3 = f.funct3;
      funct7 = omega (arith, f.upper);
      rs2 = omega (arith, f.upper);
      rs1 = f.rs1;
      rd = f.rd;
    }

pub record UpperFields (w u d o : ℕ) : Type 0 where
  pub short : w < 2 ^ 32
  pub opcode : w % 128 ≡ o
  pub upper : w / 2 ^ 12 ≡ u
  pub rd : rd_of w ≡ d

pub upper_fields : (w upper rd opcode : ℕ) → w ≡ upper * 2 ^ 12 + rd * 2 ^ 7 + opcode → upper < 2 ^ 20 → rd < 32 → opcode < 128 → UpperFields w upper rd opcode
upper_fields w upper rd opcode e a b h = record {
  short = omega arith;
  opcode = omega arith;
  upper = omega arith;
  rd = omega arith;
}

-- the low bits of a signed number in range, read with their highest bit as the sign
extended_12 : (imm : ℤ) → IsSigned 0x800 imm → sign_extend 0x800 (cast_unsigned w32 imm % 2 ^ 12) ≡ imm
extended_12 (pos n) s = grind (arith, ints)
extended_12 (negsuc n) s = grind (arith, ints)

extended_13 : (imm : ℤ) → IsSigned 0x1000 imm → sign_extend 0x1000 (cast_unsigned w32 imm % 2 ^ 13) ≡ imm
extended_13 (pos n) s = grind (arith, ints)
extended_13 (negsuc n) s = grind (arith, ints)

extended_21 : (imm : ℤ) → IsSigned 0x100000 imm → sign_extend 0x100000 (cast_unsigned w32 imm % 2 ^ 21) ≡ imm
extended_21 (pos n) s = grind (arith, ints)
extended_21 (negsuc n) s = grind (arith, ints)

pub immediate_same : (w : ℕ) (imm : ℤ) → w / 2 ^ 20 ≡ cast_unsigned w32 imm % 2 ^ 12 → IsSigned 0x800 imm → imm_i w ≡ imm
immediate_same w imm e s = rw e (extended_12 imm s)

pub store_same : (w : ℕ) (imm : ℤ) → w / 2 ^ 25 ≡ cast_unsigned w32 imm / 2 ^ 5 % 2 ^ 7 → rd_of w ≡ cast_unsigned w32 imm % 2 ^ 5 → IsSigned 0x800 imm → imm_s w ≡ imm
store_same w imm e f s =
    let same : w / 2 ^ 25 * 32 + w / 2 ^ 7 % 32 ≡ cast_unsigned w32 imm % 2 ^ 12 = omega arith in
    rw same (extended_12 imm s)

pub branch_same : (w : ℕ) (imm : ℤ) → w / 2 ^ 25 ≡ branch_high (cast_unsigned w32 imm) → rd_of w ≡ branch_low (cast_unsigned w32 imm) → IsSigned 0x1000 imm → IsMultiple 2 imm → imm_b w ≡ imm
branch_same w imm e f s m =
    let same : w / 2 ^ 31 * 0x1000 + w / 2 ^ 7 % 2 * 0x800 + w / 2 ^ 25 % 64 * 32 + w / 2 ^ 8 % 16 * 2 ≡ cast_unsigned w32 imm % 2 ^ 13 = omega arith in
    rw same (extended_13 imm s)

extended_32 : (imm : ℤ) → IsSigned 0x80000000 imm → cast_signed w32 (cast_unsigned w32 imm) ≡ imm
extended_32 (pos n) s = grind (arith, ints)
extended_32 (negsuc n) s = grind (arith, ints)

pub upper_short : (imm : ℤ) → IsSigned 0x80000000 imm → cast_unsigned w32 imm / 2 ^ 12 < 2 ^ 20
upper_short (pos n) s = grind (arith, ints)
upper_short (negsuc n) s = grind (arith, ints)

pub upper_same : (w : ℕ) (imm : ℤ) → w / 2 ^ 12 ≡ cast_unsigned w32 imm / 2 ^ 12 → IsSigned 0x80000000 imm → IsMultiple 4096 imm → imm_u w ≡ imm
upper_same w imm e s m =
    let same : w / 2 ^ 12 * 0x1000 ≡ cast_unsigned w32 imm = omega arith in
    ap (cast_signed w32) same ∙ extended_32 imm s

pub jump_short : (imm : ℤ) → jump_bits (cast_unsigned w32 imm) < 2 ^ 20
jump_short imm = omega arith

pub jump_same : (w : ℕ) (imm : ℤ) → w / 2 ^ 12 ≡ jump_bits (cast_unsigned w32 imm) → IsSigned 0x100000 imm → IsMultiple 2 imm → imm_j w ≡ imm
jump_same w imm e s m =
    let same : w / 2 ^ 31 * 0x100000 + w / 2 ^ 12 % 256 * 0x1000 + w / 2 ^ 20 % 2 * 0x800 + w / 2 ^ 21 % 1024 * 2 ≡ cast_unsigned w32 imm % 2 ^ 21 = omega arith in
    rw same (extended_21 imm s)
