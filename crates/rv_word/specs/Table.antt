-- The table of instructions of RV32IM with Zicsr, Zifencei and the machine-mode privileged
-- instructions, and its search. The chapters are those of the RISC-V manuals, volume I (unprivileged)
-- and volume II (privileged).
use Rattle.std.specs.Prelude.{ℕ, ◌==◌, if◌then◌else◌, Bool, Option, Some, None, List, [], ◌∷◌, ◌++◌, bit_and}
use Rattle.rv_word.specs.Fields.{rd_of, rs1_of, rs2_of, csr_of, imm_i, imm_s, imm_b, imm_u, imm_j}
use Rattle.rv_word.specs.declared.op.Op.{Op}
use Rattle.rv_word.specs.declared.op.Op.TheVariants as op

-- A row matches a word whose bits under the mask are the value, and reads the operands of such a word.
pub record Row : Type 0 where
  pub mask : ℕ
  pub value : ℕ
  pub reads : ℕ → Op

abbrev pub row : ℕ → ℕ → (ℕ → Op) → Row
row mask value reads = record { mask = mask; value = value; reads = reads }

abbrev pub row_matches : ℕ → Row → Bool
row_matches w r = bit_and w r.mask == r.value

-- the instruction of the first row that matches
unfoldable pub search : List Row → ℕ → Option Op
search [] w = None
search (r ∷ rs) w = if row_matches w r then Some (r.reads w) else search rs w

-- the masks: opcode alone, with funct3, with funct3 and funct7, the whole word
abbrev pub opcode : ℕ
opcode = 0x7f

abbrev pub funct3 : ℕ
funct3 = 0x707f

abbrev pub funct7 : ℕ
funct7 = 0xfe00707f

abbrev pub whole : ℕ
whole = 0xffffffff

-- chapter "RV32I Base Integer Instruction Set", section "Integer Computational Instructions": with an immediate
abbrev pub immediate_rows : List Row
immediate_rows =
    row funct3 0x00000013 (λ w. op.Addi (rd_of w) (rs1_of w) (imm_i w)) ∷
    row funct3 0x00002013 (λ w. op.Slti (rd_of w) (rs1_of w) (imm_i w)) ∷
    row funct3 0x00003013 (λ w. op.Sltiu (rd_of w) (rs1_of w) (imm_i w)) ∷
    row funct3 0x00004013 (λ w. op.Xori (rd_of w) (rs1_of w) (imm_i w)) ∷
    row funct3 0x00006013 (λ w. op.Ori (rd_of w) (rs1_of w) (imm_i w)) ∷
    row funct3 0x00007013 (λ w. op.Andi (rd_of w) (rs1_of w) (imm_i w)) ∷
    row funct7 0x00001013 (λ w. op.Slli (rd_of w) (rs1_of w) (rs2_of w)) ∷
    row funct7 0x00005013 (λ w. op.Srli (rd_of w) (rs1_of w) (rs2_of w)) ∷
    row funct7 0x40005013 (λ w. op.Srai (rd_of w) (rs1_of w) (rs2_of w)) ∷
    row opcode 0x00000037 (λ w. op.Lui (rd_of w) (imm_u w)) ∷
    row opcode 0x00000017 (λ w. op.Auipc (rd_of w) (imm_u w)) ∷
    []

-- the same section: register with register
abbrev pub register_rows : List Row
register_rows =
    row funct7 0x00000033 (λ w. op.Add (rd_of w) (rs1_of w) (rs2_of w)) ∷
    row funct7 0x40000033 (λ w. op.Sub (rd_of w) (rs1_of w) (rs2_of w)) ∷
    row funct7 0x00001033 (λ w. op.Sll (rd_of w) (rs1_of w) (rs2_of w)) ∷
    row funct7 0x00002033 (λ w. op.Slt (rd_of w) (rs1_of w) (rs2_of w)) ∷
    row funct7 0x00003033 (λ w. op.Sltu (rd_of w) (rs1_of w) (rs2_of w)) ∷
    row funct7 0x00004033 (λ w. op.Xor (rd_of w) (rs1_of w) (rs2_of w)) ∷
    row funct7 0x00005033 (λ w. op.Srl (rd_of w) (rs1_of w) (rs2_of w)) ∷
    row funct7 0x40005033 (λ w. op.Sra (rd_of w) (rs1_of w) (rs2_of w)) ∷
    row funct7 0x00006033 (λ w. op.Or (rd_of w) (rs1_of w) (rs2_of w)) ∷
    row funct7 0x00007033 (λ w. op.And (rd_of w) (rs1_of w) (rs2_of w)) ∷
    []

-- the same chapter, section "Control Transfer Instructions"
abbrev pub control_rows : List Row
control_rows =
    row opcode 0x0000006f (λ w. op.Jal (rd_of w) (imm_j w)) ∷
    row funct3 0x00000067 (λ w. op.Jalr (rd_of w) (rs1_of w) (imm_i w)) ∷
    row funct3 0x00000063 (λ w. op.Beq (rs1_of w) (rs2_of w) (imm_b w)) ∷
    row funct3 0x00001063 (λ w. op.Bne (rs1_of w) (rs2_of w) (imm_b w)) ∷
    row funct3 0x00004063 (λ w. op.Blt (rs1_of w) (rs2_of w) (imm_b w)) ∷
    row funct3 0x00005063 (λ w. op.Bge (rs1_of w) (rs2_of w) (imm_b w)) ∷
    row funct3 0x00006063 (λ w. op.Bltu (rs1_of w) (rs2_of w) (imm_b w)) ∷
    row funct3 0x00007063 (λ w. op.Bgeu (rs1_of w) (rs2_of w) (imm_b w)) ∷
    []

-- the same chapter, section "Load and Store Instructions"
abbrev pub memory_rows : List Row
memory_rows =
    row funct3 0x00000003 (λ w. op.Lb (rd_of w) (rs1_of w) (imm_i w)) ∷
    row funct3 0x00001003 (λ w. op.Lh (rd_of w) (rs1_of w) (imm_i w)) ∷
    row funct3 0x00002003 (λ w. op.Lw (rd_of w) (rs1_of w) (imm_i w)) ∷
    row funct3 0x00004003 (λ w. op.Lbu (rd_of w) (rs1_of w) (imm_i w)) ∷
    row funct3 0x00005003 (λ w. op.Lhu (rd_of w) (rs1_of w) (imm_i w)) ∷
    row funct3 0x00000023 (λ w. op.Sb (rs1_of w) (rs2_of w) (imm_s w)) ∷
    row funct3 0x00001023 (λ w. op.Sh (rs1_of w) (rs2_of w) (imm_s w)) ∷
    row funct3 0x00002023 (λ w. op.Sw (rs1_of w) (rs2_of w) (imm_s w)) ∷
    []

-- the same chapter, section "Memory Ordering Instructions", and chapter "Zifencei"; all other bits are operands
abbrev pub fence_rows : List Row
fence_rows =
    row funct3 0x0000000f (λ _. op.Fence) ∷
    row funct3 0x0000100f (λ _. op.FenceI) ∷
    []

-- chapter "Zicsr": the five bits that name rs1 are the immediate of the last three
abbrev pub csr_rows : List Row
csr_rows =
    row funct3 0x00001073 (λ w. op.Csrrw (rd_of w) (csr_of w) (rs1_of w)) ∷
    row funct3 0x00002073 (λ w. op.Csrrs (rd_of w) (csr_of w) (rs1_of w)) ∷
    row funct3 0x00003073 (λ w. op.Csrrc (rd_of w) (csr_of w) (rs1_of w)) ∷
    row funct3 0x00005073 (λ w. op.Csrrwi (rd_of w) (csr_of w) (rs1_of w)) ∷
    row funct3 0x00006073 (λ w. op.Csrrsi (rd_of w) (csr_of w) (rs1_of w)) ∷
    row funct3 0x00007073 (λ w. op.Csrrci (rd_of w) (csr_of w) (rs1_of w)) ∷
    []

-- chapter "M": multiplication and division
abbrev pub multiply_rows : List Row
multiply_rows =
    row funct7 0x02000033 (λ w. op.Mul (rd_of w) (rs1_of w) (rs2_of w)) ∷
    row funct7 0x02001033 (λ w. op.Mulh (rd_of w) (rs1_of w) (rs2_of w)) ∷
    row funct7 0x02002033 (λ w. op.Mulhsu (rd_of w) (rs1_of w) (rs2_of w)) ∷
    row funct7 0x02003033 (λ w. op.Mulhu (rd_of w) (rs1_of w) (rs2_of w)) ∷
    row funct7 0x02004033 (λ w. op.Div (rd_of w) (rs1_of w) (rs2_of w)) ∷
    row funct7 0x02005033 (λ w. op.Divu (rd_of w) (rs1_of w) (rs2_of w)) ∷
    row funct7 0x02006033 (λ w. op.Rem (rd_of w) (rs1_of w) (rs2_of w)) ∷
    row funct7 0x02007033 (λ w. op.Remu (rd_of w) (rs1_of w) (rs2_of w)) ∷
    []

-- section "Environment Call and Breakpoints", and the privileged manual's "Machine-Mode Privileged Instructions"
abbrev pub machine_rows : List Row
machine_rows =
    row whole 0x00000073 (λ _. op.Ecall) ∷
    row whole 0x00100073 (λ _. op.Ebreak) ∷
    row whole 0x30200073 (λ _. op.Mret) ∷
    row whole 0x10500073 (λ _. op.Wfi) ∷
    []

-- all rows
unfoldable pub table : List Row
table = immediate_rows ++ register_rows ++ control_rows ++ memory_rows ++ fence_rows ++ csr_rows ++ multiply_rows ++ machine_rows
