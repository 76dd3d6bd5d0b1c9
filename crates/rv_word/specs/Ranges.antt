-- The operands that a word can hold (RISC-V unprivileged manual, chapter "RV32I", section "Immediate Encoding Variants"): 12 bits with a sign
-- in the I and S formats, 13 and 21 bits with a sign and the lowest one 0 in B and J, and the upper 20 bits in U.
use Rattle.std.specs.Prelude.{◌≡◌, ℕ, ◌-◌, ◌<◌, ◌%◌, ℤ, pos, negsuc, ◌≤ℤ◌, ◌<ℤ◌}
use Rattle.std.specs.Int.{w32, cast_unsigned}
use Rattle.rv_word.specs.declared.op.Op.{Op}
use Rattle.rv_word.specs.declared.op.Op.TheVariants as op

-- one of the 32 registers
abbrev pub IsRegister : ℕ → Type 0
IsRegister n = n < 32

-- a signed number from -half on and below half
abbrev pub IsSigned : ℕ → ℤ → Type 0
IsSigned half imm = (negsuc (half - 1) ≤ℤ imm) × (imm <ℤ pos half)

-- a multiple of n, a power of two: so are the 32 bits of the number
abbrev pub IsMultiple : ℕ → ℤ → Type 0
IsMultiple n imm = cast_unsigned w32 imm % n ≡ 0

-- The operands are in range.
abbrev pub IsInRange : Op → Type 0
IsInRange (op.Lui rd imm) = IsRegister rd × IsMultiple 4096 imm
IsInRange (op.Auipc rd imm) = IsRegister rd × IsMultiple 4096 imm
IsInRange (op.Jal rd imm) = IsRegister rd × IsSigned 0x100000 imm × IsMultiple 2 imm
IsInRange (op.Jalr rd rs1 imm) = IsRegister rd × IsRegister rs1 × IsSigned 0x800 imm
IsInRange (op.Lb rd rs1 imm) = IsRegister rd × IsRegister rs1 × IsSigned 0x800 imm
IsInRange (op.Lh rd rs1 imm) = IsRegister rd × IsRegister rs1 × IsSigned 0x800 imm
IsInRange (op.Lw rd rs1 imm) = IsRegister rd × IsRegister rs1 × IsSigned 0x800 imm
IsInRange (op.Lbu rd rs1 imm) = IsRegister rd × IsRegister rs1 × IsSigned 0x800 imm
IsInRange (op.Lhu rd rs1 imm) = IsRegister rd × IsRegister rs1 × IsSigned 0x800 imm
IsInRange (op.Addi rd rs1 imm) = IsRegister rd × IsRegister rs1 × IsSigned 0x800 imm
IsInRange (op.Slti rd rs1 imm) = IsRegister rd × IsRegister rs1 × IsSigned 0x800 imm
IsInRange (op.Sltiu rd rs1 imm) = IsRegister rd × IsRegister rs1 × IsSigned 0x800 imm
IsInRange (op.Xori rd rs1 imm) = IsRegister rd × IsRegister rs1 × IsSigned 0x800 imm
IsInRange (op.Ori rd rs1 imm) = IsRegister rd × IsRegister rs1 × IsSigned 0x800 imm
IsInRange (op.Andi rd rs1 imm) = IsRegister rd × IsRegister rs1 × IsSigned 0x800 imm
IsInRange (op.Beq rs1 rs2 imm) = IsRegister rs1 × IsRegister rs2 × IsSigned 0x1000 imm × IsMultiple 2 imm
IsInRange (op.Bne rs1 rs2 imm) = IsRegister rs1 × IsRegister rs2 × IsSigned 0x1000 imm × IsMultiple 2 imm
IsInRange (op.Blt rs1 rs2 imm) = IsRegister rs1 × IsRegister rs2 × IsSigned 0x1000 imm × IsMultiple 2 imm
IsInRange (op.Bge rs1 rs2 imm) = IsRegister rs1 × IsRegister rs2 × IsSigned 0x1000 imm × IsMultiple 2 imm
IsInRange (op.Bltu rs1 rs2 imm) = IsRegister rs1 × IsRegister rs2 × IsSigned 0x1000 imm × IsMultiple 2 imm
IsInRange (op.Bgeu rs1 rs2 imm) = IsRegister rs1 × IsRegister rs2 × IsSigned 0x1000 imm × IsMultiple 2 imm
IsInRange (op.Sb rs1 rs2 imm) = IsRegister rs1 × IsRegister rs2 × IsSigned 0x800 imm
IsInRange (op.Sh rs1 rs2 imm) = IsRegister rs1 × IsRegister rs2 × IsSigned 0x800 imm
IsInRange (op.Sw rs1 rs2 imm) = IsRegister rs1 × IsRegister rs2 × IsSigned 0x800 imm
IsInRange (op.Slli rd rs1 shamt) = IsRegister rd × IsRegister rs1 × (shamt < 32)
IsInRange (op.Srli rd rs1 shamt) = IsRegister rd × IsRegister rs1 × (shamt < 32)
IsInRange (op.Srai rd rs1 shamt) = IsRegister rd × IsRegister rs1 × (shamt < 32)
IsInRange (op.Add rd rs1 rs2) = IsRegister rd × IsRegister rs1 × IsRegister rs2
IsInRange (op.Sub rd rs1 rs2) = IsRegister rd × IsRegister rs1 × IsRegister rs2
IsInRange (op.Sll rd rs1 rs2) = IsRegister rd × IsRegister rs1 × IsRegister rs2
IsInRange (op.Slt rd rs1 rs2) = IsRegister rd × IsRegister rs1 × IsRegister rs2
IsInRange (op.Sltu rd rs1 rs2) = IsRegister rd × IsRegister rs1 × IsRegister rs2
IsInRange (op.Xor rd rs1 rs2) = IsRegister rd × IsRegister rs1 × IsRegister rs2
IsInRange (op.Srl rd rs1 rs2) = IsRegister rd × IsRegister rs1 × IsRegister rs2
IsInRange (op.Sra rd rs1 rs2) = IsRegister rd × IsRegister rs1 × IsRegister rs2
IsInRange (op.Or rd rs1 rs2) = IsRegister rd × IsRegister rs1 × IsRegister rs2
IsInRange (op.And rd rs1 rs2) = IsRegister rd × IsRegister rs1 × IsRegister rs2
IsInRange (op.Mul rd rs1 rs2) = IsRegister rd × IsRegister rs1 × IsRegister rs2
IsInRange (op.Mulh rd rs1 rs2) = IsRegister rd × IsRegister rs1 × IsRegister rs2
IsInRange (op.Mulhsu rd rs1 rs2) = IsRegister rd × IsRegister rs1 × IsRegister rs2
IsInRange (op.Mulhu rd rs1 rs2) = IsRegister rd × IsRegister rs1 × IsRegister rs2
IsInRange (op.Div rd rs1 rs2) = IsRegister rd × IsRegister rs1 × IsRegister rs2
IsInRange (op.Divu rd rs1 rs2) = IsRegister rd × IsRegister rs1 × IsRegister rs2
IsInRange (op.Rem rd rs1 rs2) = IsRegister rd × IsRegister rs1 × IsRegister rs2
IsInRange (op.Remu rd rs1 rs2) = IsRegister rd × IsRegister rs1 × IsRegister rs2
IsInRange (op.Csrrw rd csr rs1) = IsRegister rd × (csr < 4096) × IsRegister rs1
IsInRange (op.Csrrs rd csr rs1) = IsRegister rd × (csr < 4096) × IsRegister rs1
IsInRange (op.Csrrc rd csr rs1) = IsRegister rd × (csr < 4096) × IsRegister rs1
IsInRange (op.Csrrwi rd csr zimm) = IsRegister rd × (csr < 4096) × (zimm < 32)
IsInRange (op.Csrrsi rd csr zimm) = IsRegister rd × (csr < 4096) × (zimm < 32)
IsInRange (op.Csrrci rd csr zimm) = IsRegister rd × (csr < 4096) × (zimm < 32)
IsInRange op.Fence = Unit {0}
IsInRange op.FenceI = Unit {0}
IsInRange op.Ecall = Unit {0}
IsInRange op.Ebreak = Unit {0}
IsInRange op.Mret = Unit {0}
IsInRange op.Wfi = Unit {0}
