-- The layouts of instruction words (RISC-V unprivileged manual, chapter "RV32I", sections "Base
-- Instruction Formats" and "Immediate Encoding Variants").
use Rattle.std.specs.Prelude.{ℕ, ◌+◌, ◌*◌, ◌/◌, ◌%◌, ◌^◌, ℤ}
use Rattle.std.specs.Int.{w32, cast_unsigned}

-- the upper twelve bits, rs1, funct3, rd and the opcode
abbrev pub word_of : ℕ → ℕ → ℕ → ℕ → ℕ → ℕ
word_of upper rs1 funct3 rd opcode = upper * 2 ^ 20 + rs1 * 2 ^ 15 + funct3 * 2 ^ 12 + rd * 2 ^ 7 + opcode

-- format R
abbrev pub r_word : ℕ → ℕ → ℕ → ℕ → ℕ → ℕ → ℕ
r_word funct7 rs2 rs1 funct3 rd opcode = word_of (funct7 * 2 ^ 5 + rs2) rs1 funct3 rd opcode

-- format I
abbrev pub i_word : ℤ → ℕ → ℕ → ℕ → ℕ → ℕ
i_word imm rs1 funct3 rd opcode = word_of (cast_unsigned w32 imm % 2 ^ 12) rs1 funct3 rd opcode

-- format S, of a store
abbrev pub s_word : ℤ → ℕ → ℕ → ℕ → ℕ
s_word imm rs2 rs1 funct3 = r_word (cast_unsigned w32 imm / 2 ^ 5 % 2 ^ 7) rs2 rs1 funct3 (cast_unsigned w32 imm % 2 ^ 5) 0x23

-- bits 12 and 10:5 of a branch's immediate, and its bits 4:1 and 11
abbrev pub branch_high : ℕ → ℕ
branch_high bits = bits / 2 ^ 12 % 2 * 2 ^ 6 + bits / 2 ^ 5 % 2 ^ 6

abbrev pub branch_low : ℕ → ℕ
branch_low bits = bits / 2 % 2 ^ 4 * 2 + bits / 2 ^ 11 % 2

-- format B, of a branch
abbrev pub b_word : ℤ → ℕ → ℕ → ℕ → ℕ
b_word imm rs2 rs1 funct3 = r_word (branch_high (cast_unsigned w32 imm)) rs2 rs1 funct3 (branch_low (cast_unsigned w32 imm)) 0x63

-- format U
abbrev pub u_word : ℤ → ℕ → ℕ → ℕ
u_word imm rd opcode = cast_unsigned w32 imm / 2 ^ 12 * 2 ^ 12 + rd * 2 ^ 7 + opcode

-- bits 20, 10:1, 11 and 19:12 of a jump's immediate
abbrev pub jump_bits : ℕ → ℕ
jump_bits bits = bits / 2 ^ 20 % 2 * 2 ^ 19 + bits / 2 % 2 ^ 10 * 2 ^ 9 + bits / 2 ^ 11 % 2 * 2 ^ 8 + bits / 2 ^ 12 % 2 ^ 8

-- format J, of JAL
abbrev pub j_word : ℤ → ℕ → ℕ
j_word imm rd = jump_bits (cast_unsigned w32 imm) * 2 ^ 12 + rd * 2 ^ 7 + 0x6f
