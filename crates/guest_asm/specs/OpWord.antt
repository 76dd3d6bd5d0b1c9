-- The word of each instruction. The operand bits of the fences are zero.
use Rattle.std.specs.Prelude.{ℕ}
use Rattle.rv_word.specs.Ranges.{IsSigned}
use Rattle.rv_word.specs.declared.op.Op.{Op}
use Rattle.rv_word.specs.declared.op.Op.TheVariants as op
use Rattle.guest_asm.specs.Layout.{word_of, r_word, i_word, s_word, b_word, u_word, j_word}

abbrev pub op_word : Op → ℕ
op_word (op.Lui rd imm) = u_word imm rd 0x37
op_word (op.Auipc rd imm) = u_word imm rd 0x17
op_word (op.Jal rd imm) = j_word imm rd
op_word (op.Jalr rd rs1 imm) = i_word imm rs1 0 rd 0x67
op_word (op.Beq rs1 rs2 imm) = b_word imm rs2 rs1 0
op_word (op.Bne rs1 rs2 imm) = b_word imm rs2 rs1 1
op_word (op.Blt rs1 rs2 imm) = b_word imm rs2 rs1 4
op_word (op.Bge rs1 rs2 imm) = b_word imm rs2 rs1 5
op_word (op.Bltu rs1 rs2 imm) = b_word imm rs2 rs1 6
op_word (op.Bgeu rs1 rs2 imm) = b_word imm rs2 rs1 7
op_word (op.Lb rd rs1 imm) = i_word imm rs1 0 rd 0x03
op_word (op.Lh rd rs1 imm) = i_word imm rs1 1 rd 0x03
op_word (op.Lw rd rs1 imm) = i_word imm rs1 2 rd 0x03
op_word (op.Lbu rd rs1 imm) = i_word imm rs1 4 rd 0x03
op_word (op.Lhu rd rs1 imm) = i_word imm rs1 5 rd 0x03
op_word (op.Sb rs1 rs2 imm) = s_word imm rs2 rs1 0
op_word (op.Sh rs1 rs2 imm) = s_word imm rs2 rs1 1
op_word (op.Sw rs1 rs2 imm) = s_word imm rs2 rs1 2
op_word (op.Addi rd rs1 imm) = i_word imm rs1 0 rd 0x13
op_word (op.Slti rd rs1 imm) = i_word imm rs1 2 rd 0x13
op_word (op.Sltiu rd rs1 imm) = i_word imm rs1 3 rd 0x13
op_word (op.Xori rd rs1 imm) = i_word imm rs1 4 rd 0x13
op_word (op.Ori rd rs1 imm) = i_word imm rs1 6 rd 0x13
op_word (op.Andi rd rs1 imm) = i_word imm rs1 7 rd 0x13
op_word (op.Slli rd rs1 shamt) = r_word 0x00 shamt rs1 1 rd 0x13
op_word (op.Srli rd rs1 shamt) = r_word 0x00 shamt rs1 5 rd 0x13
op_word (op.Srai rd rs1 shamt) = r_word 0x20 shamt rs1 5 rd 0x13
op_word (op.Add rd rs1 rs2) = r_word 0x00 rs2 rs1 0 rd 0x33
op_word (op.Sub rd rs1 rs2) = r_word 0x20 rs2 rs1 0 rd 0x33
op_word (op.Sll rd rs1 rs2) = r_word 0x00 rs2 rs1 1 rd 0x33
op_word (op.Slt rd rs1 rs2) = r_word 0x00 rs2 rs1 2 rd 0x33
op_word (op.Sltu rd rs1 rs2) = r_word 0x00 rs2 rs1 3 rd 0x33
op_word (op.Xor rd rs1 rs2) = r_word 0x00 rs2 rs1 4 rd 0x33
op_word (op.Srl rd rs1 rs2) = r_word 0x00 rs2 rs1 5 rd 0x33
op_word (op.Sra rd rs1 rs2) = r_word 0x20 rs2 rs1 5 rd 0x33
op_word (op.Or rd rs1 rs2) = r_word 0x00 rs2 rs1 6 rd 0x33
op_word (op.And rd rs1 rs2) = r_word 0x00 rs2 rs1 7 rd 0x33
op_word (op.Mul rd rs1 rs2) = r_word 0x01 rs2 rs1 0 rd 0x33
op_word (op.Mulh rd rs1 rs2) = r_word 0x01 rs2 rs1 1 rd 0x33
op_word (op.Mulhsu rd rs1 rs2) = r_word 0x01 rs2 rs1 2 rd 0x33
op_word (op.Mulhu rd rs1 rs2) = r_word 0x01 rs2 rs1 3 rd 0x33
op_word (op.Div rd rs1 rs2) = r_word 0x01 rs2 rs1 4 rd 0x33
op_word (op.Divu rd rs1 rs2) = r_word 0x01 rs2 rs1 5 rd 0x33
op_word (op.Rem rd rs1 rs2) = r_word 0x01 rs2 rs1 6 rd 0x33
op_word (op.Remu rd rs1 rs2) = r_word 0x01 rs2 rs1 7 rd 0x33
op_word op.Fence = 0x0000000f
op_word op.FenceI = 0x0000100f
op_word (op.Csrrw rd csr rs1) = word_of csr rs1 1 rd 0x73
op_word (op.Csrrs rd csr rs1) = word_of csr rs1 2 rd 0x73
op_word (op.Csrrc rd csr rs1) = word_of csr rs1 3 rd 0x73
op_word (op.Csrrwi rd csr zimm) = word_of csr zimm 5 rd 0x73
op_word (op.Csrrsi rd csr zimm) = word_of csr zimm 6 rd 0x73
op_word (op.Csrrci rd csr zimm) = word_of csr zimm 7 rd 0x73
op_word op.Ecall = 0x00000073
op_word op.Ebreak = 0x00100073
op_word op.Mret = 0x30200073
op_word op.Wfi = 0x10500073

-- an immediate of format U is a signed number of 32 bits, as the field that holds it
abbrev pub IsSignedWord : Op → Type 0
IsSignedWord (op.Lui rd imm) = IsSigned 0x80000000 imm
IsSignedWord (op.Auipc rd imm) = IsSigned 0x80000000 imm
IsSignedWord o = Unit {0}
