-- What each instruction does.
use Rattle.std.specs.Prelude.{ℕ, ◌+◌, ◌*◌, ◌-◌, ◌/◌, ◌%◌, ◌^◌, ◌==◌, not, if◌then◌else◌, Bool, true, Option, Some, None, Result, Ok, Err, ℤ, List, slice_index, slice_set, bit_and, bit_or, bit_xor}
use Rattle.tb_base.specs.declared.width.Width.{Width}
use Rattle.tb_base.specs.declared.width.Width.TheVariants.{Byte, Half, Word}
use Rattle.guest_ram.specs.declared.fault.MemFault.{MemFault}
use Rattle.guest_ram.specs.declared.fault.MemFault.TheVariants.{Misaligned, Outside}
use Rattle.csr_file.specs.declared.view.CsrView.{CsrView}
use Rattle.csr_file.specs.Causes as trap
use Rattle.csr_file.specs.Csrs.{bit_of}
use Rattle.csr_file.specs.Table.{csr_read, csr_write, is_writable}
use Rattle.csr_file.specs.Traps.{mret_csrs}
use Rattle.rv_arith.specs.Words.{word_of, word_sll, word_srl, word_sra, word_slt, word_sltu, word_mulh, word_mulhsu, word_mulhu, word_div, word_divu, word_rem, word_remu, word_sext8, word_sext16}
use Rattle.rv_word.specs.declared.op.Op.{Op}
use Rattle.rv_word.specs.declared.op.Op.TheVariants as op
use Rattle.rv_exec.specs.BusOf.{BusOf}
use Rattle.rv_exec.specs.HartState.{HartState}

-- the instruction is done, and leaves this hart, or it traps with a cause and a value
pub data Outcome : Type 0 where
  Done : HartState → Outcome
  Raises : ℕ → ℕ → Outcome

-- x0 reads zero and ignores writes
abbrev pub reg_of : HartState → ℕ → ℕ
reg_of h i = if i == 0 then 0 else slice_index h.regs i

abbrev pub put_reg : List ℕ → ℕ → ℕ → List ℕ
put_reg regs i v = if i == 0 then regs else slice_set regs i v

-- the next instruction follows
abbrev pub onward : HartState → HartState
onward h = record h { pc = (h.pc + 4) % 2 ^ 32 }

abbrev pub value_done : HartState → ℕ → ℕ → Outcome
value_done h rd v = Done (record h { regs = put_reg h.regs rd v; pc = (h.pc + 4) % 2 ^ 32 })

abbrev pub jump : HartState → ℕ → ℕ → Outcome
jump h rd target =
    if target % 4 == 0 then Done (record h { regs = put_reg h.regs rd ((h.pc + 4) % 2 ^ 32); pc = target }) else
    Raises trap.instruction_misaligned target

abbrev pub goes : HartState → ℕ → Outcome
goes h target = if target % 4 == 0 then Done (record h { pc = target }) else Raises trap.instruction_misaligned target

abbrev pub branch : HartState → Bool → ℤ → Outcome
branch h taken imm = if taken then goes h ((h.pc + word_of imm) % 2 ^ 32) else Done (onward h)

abbrev pub as_is : ℕ → ℕ
as_is w = w

abbrev pub load_cause : MemFault → ℕ
load_cause Misaligned = trap.load_misaligned
load_cause Outside = trap.load_access_fault

abbrev pub store_cause : MemFault → ℕ
store_cause Misaligned = trap.store_misaligned
store_cause Outside = trap.store_access_fault

abbrev pub load_done : HartState → ℕ → (ℕ → ℕ) → ℕ → Result ℕ MemFault → Outcome
load_done h rd f addr (Ok w) = value_done h rd (f w)
load_done h rd f addr (Err e) = Raises (load_cause e) addr

abbrev pub store_done : {S : Type 0} → HartState → S → ℕ → Result S MemFault → Outcome × S
store_done h s addr (Ok s') = (Done (onward h), s')
store_done h s addr (Err e) = (Raises (store_cause e) addr, s)

-- the address of a load or a store (RISC-V unprivileged manual, section "Load and Store Instructions")
abbrev pub address : HartState → ℕ → ℤ → ℕ
address h rs1 imm = (reg_of h rs1 + word_of imm) % 2 ^ 32

-- a load from an address, of whose number this value is put
abbrev pub load_from : {S : Type 0} → BusOf S → HartState → S → Width → (ℕ → ℕ) → ℕ → ℕ → Outcome × S
load_from b h s width f rd addr = (load_done h rd f addr (b.loaded s addr width), s)

-- a store to an address
abbrev pub store_to : {S : Type 0} → BusOf S → HartState → S → Width → ℕ → ℕ → Outcome × S
store_to b h s width value addr = store_done h s addr (b.stored s addr width value)

-- the value that is written, from the old value and the operand
abbrev pub csrrw_value : ℕ → ℕ → ℕ
csrrw_value old x = x

abbrev pub csrrs_value : ℕ → ℕ → ℕ
csrrs_value old x = bit_or old x

abbrev pub csrrc_value : ℕ → ℕ → ℕ
csrrc_value old x = bit_and old (2 ^ 32 - 1 - x)

abbrev pub csr_written : HartState → ℕ → ℕ → ℕ → ℕ → ℕ → Outcome
csr_written h word rd csr old new =
    if is_writable csr then Done (record h { regs = put_reg h.regs rd old; pc = (h.pc + 4) % 2 ^ 32; csrs = csr_write h.csrs csr new }) else
    Raises trap.illegal_instruction word

abbrev pub csr_got : HartState → ℕ → ℕ → ℕ → (ℕ → ℕ → ℕ) → ℕ → Bool → Option ℕ → Outcome
csr_got h word rd csr f x writes None = Raises trap.illegal_instruction word
csr_got h word rd csr f x writes (Some old) = if writes then csr_written h word rd csr old (f old x) else value_done h rd old

abbrev pub csr_done : HartState → CsrView → ℕ → ℕ → ℕ → (ℕ → ℕ → ℕ) → ℕ → Bool → Outcome
csr_done h v word rd csr f x writes = csr_got h word rd csr f x writes (csr_read h.csrs v csr)

-- What an instruction does to a hart and to the plain state of its bus, given what its CSRs are read from
-- and its word (RISC-V unprivileged manual, chapters "RV32I", "Zifencei", "Zicsr" and "M"; MRET and WFI
-- are the privileged manual's). The fences do nothing.
abbrev pub meaning : {S : Type 0} → BusOf S → HartState → S → CsrView → ℕ → Op → Outcome × S
meaning b h s v word (op.Lui rd imm) = (value_done h rd (word_of imm), s)
meaning b h s v word (op.Auipc rd imm) = (value_done h rd ((h.pc + word_of imm) % 2 ^ 32), s)
meaning b h s v word (op.Jal rd imm) = (jump h rd ((h.pc + word_of imm) % 2 ^ 32), s)
meaning b h s v word (op.Jalr rd rs1 imm) = (jump h rd ((reg_of h rs1 + word_of imm) % 2 ^ 32 / 2 * 2), s)
meaning b h s v word (op.Beq rs1 rs2 imm) = (branch h (reg_of h rs1 == reg_of h rs2) imm, s)
meaning b h s v word (op.Bne rs1 rs2 imm) = (branch h (not (reg_of h rs1 == reg_of h rs2)) imm, s)
meaning b h s v word (op.Blt rs1 rs2 imm) = (branch h (word_slt (reg_of h rs1) (reg_of h rs2)) imm, s)
meaning b h s v word (op.Bge rs1 rs2 imm) = (branch h (not (word_slt (reg_of h rs1) (reg_of h rs2))) imm, s)
meaning b h s v word (op.Bltu rs1 rs2 imm) = (branch h (word_sltu (reg_of h rs1) (reg_of h rs2)) imm, s)
meaning b h s v word (op.Bgeu rs1 rs2 imm) = (branch h (not (word_sltu (reg_of h rs1) (reg_of h rs2))) imm, s)
meaning b h s v word (op.Lb rd rs1 imm) = load_from b h s Byte word_sext8 rd (address h rs1 imm)
meaning b h s v word (op.Lh rd rs1 imm) = load_from b h s Half word_sext16 rd (address h rs1 imm)
meaning b h s v word (op.Lw rd rs1 imm) = load_from b h s Word as_is rd (address h rs1 imm)
meaning b h s v word (op.Lbu rd rs1 imm) = load_from b h s Byte as_is rd (address h rs1 imm)
meaning b h s v word (op.Lhu rd rs1 imm) = load_from b h s Half as_is rd (address h rs1 imm)
meaning b h s v word (op.Sb rs1 rs2 imm) = store_to b h s Byte (reg_of h rs2) (address h rs1 imm)
meaning b h s v word (op.Sh rs1 rs2 imm) = store_to b h s Half (reg_of h rs2) (address h rs1 imm)
meaning b h s v word (op.Sw rs1 rs2 imm) = store_to b h s Word (reg_of h rs2) (address h rs1 imm)
meaning b h s v word (op.Addi rd rs1 imm) = (value_done h rd ((reg_of h rs1 + word_of imm) % 2 ^ 32), s)
meaning b h s v word (op.Slti rd rs1 imm) = (value_done h rd (bit_of (word_slt (reg_of h rs1) (word_of imm))), s)
meaning b h s v word (op.Sltiu rd rs1 imm) = (value_done h rd (bit_of (word_sltu (reg_of h rs1) (word_of imm))), s)
meaning b h s v word (op.Xori rd rs1 imm) = (value_done h rd (bit_xor (reg_of h rs1) (word_of imm)), s)
meaning b h s v word (op.Ori rd rs1 imm) = (value_done h rd (bit_or (reg_of h rs1) (word_of imm)), s)
meaning b h s v word (op.Andi rd rs1 imm) = (value_done h rd (bit_and (reg_of h rs1) (word_of imm)), s)
meaning b h s v word (op.Slli rd rs1 shamt) = (value_done h rd (word_sll (reg_of h rs1) shamt), s)
meaning b h s v word (op.Srli rd rs1 shamt) = (value_done h rd (word_srl (reg_of h rs1) shamt), s)
meaning b h s v word (op.Srai rd rs1 shamt) = (value_done h rd (word_sra (reg_of h rs1) shamt), s)
meaning b h s v word (op.Add rd rs1 rs2) = (value_done h rd ((reg_of h rs1 + reg_of h rs2) % 2 ^ 32), s)
meaning b h s v word (op.Sub rd rs1 rs2) = (value_done h rd ((reg_of h rs1 + (2 ^ 32 - reg_of h rs2)) % 2 ^ 32), s)
meaning b h s v word (op.Sll rd rs1 rs2) = (value_done h rd (word_sll (reg_of h rs1) (reg_of h rs2)), s)
meaning b h s v word (op.Slt rd rs1 rs2) = (value_done h rd (bit_of (word_slt (reg_of h rs1) (reg_of h rs2))), s)
meaning b h s v word (op.Sltu rd rs1 rs2) = (value_done h rd (bit_of (word_sltu (reg_of h rs1) (reg_of h rs2))), s)
meaning b h s v word (op.Xor rd rs1 rs2) = (value_done h rd (bit_xor (reg_of h rs1) (reg_of h rs2)), s)
meaning b h s v word (op.Srl rd rs1 rs2) = (value_done h rd (word_srl (reg_of h rs1) (reg_of h rs2)), s)
meaning b h s v word (op.Sra rd rs1 rs2) = (value_done h rd (word_sra (reg_of h rs1) (reg_of h rs2)), s)
meaning b h s v word (op.Or rd rs1 rs2) = (value_done h rd (bit_or (reg_of h rs1) (reg_of h rs2)), s)
meaning b h s v word (op.And rd rs1 rs2) = (value_done h rd (bit_and (reg_of h rs1) (reg_of h rs2)), s)
meaning b h s v word (op.Mul rd rs1 rs2) = (value_done h rd ((reg_of h rs1 * reg_of h rs2) % 2 ^ 32), s)
meaning b h s v word (op.Mulh rd rs1 rs2) = (value_done h rd (word_mulh (reg_of h rs1) (reg_of h rs2)), s)
meaning b h s v word (op.Mulhsu rd rs1 rs2) = (value_done h rd (word_mulhsu (reg_of h rs1) (reg_of h rs2)), s)
meaning b h s v word (op.Mulhu rd rs1 rs2) = (value_done h rd (word_mulhu (reg_of h rs1) (reg_of h rs2)), s)
meaning b h s v word (op.Div rd rs1 rs2) = (value_done h rd (word_div (reg_of h rs1) (reg_of h rs2)), s)
meaning b h s v word (op.Divu rd rs1 rs2) = (value_done h rd (word_divu (reg_of h rs1) (reg_of h rs2)), s)
meaning b h s v word (op.Rem rd rs1 rs2) = (value_done h rd (word_rem (reg_of h rs1) (reg_of h rs2)), s)
meaning b h s v word (op.Remu rd rs1 rs2) = (value_done h rd (word_remu (reg_of h rs1) (reg_of h rs2)), s)
meaning b h s v word op.Fence = (Done (onward h), s)
meaning b h s v word op.FenceI = (Done (onward h), s)
meaning b h s v word (op.Csrrw rd csr rs1) = (csr_done h v word rd csr csrrw_value (reg_of h rs1) (true), s)
meaning b h s v word (op.Csrrs rd csr rs1) = (csr_done h v word rd csr csrrs_value (reg_of h rs1) (not (rs1 == 0)), s)
meaning b h s v word (op.Csrrc rd csr rs1) = (csr_done h v word rd csr csrrc_value (reg_of h rs1) (not (rs1 == 0)), s)
meaning b h s v word (op.Csrrwi rd csr zimm) = (csr_done h v word rd csr csrrw_value zimm (true), s)
meaning b h s v word (op.Csrrsi rd csr zimm) = (csr_done h v word rd csr csrrs_value zimm (not (zimm == 0)), s)
meaning b h s v word (op.Csrrci rd csr zimm) = (csr_done h v word rd csr csrrc_value zimm (not (zimm == 0)), s)
meaning b h s v word op.Ecall = (Raises trap.machine_call 0, s)
meaning b h s v word op.Ebreak = (Raises trap.breakpoint 0, s)
meaning b h s v word op.Mret = (Done (record h { csrs = mret_csrs h.csrs; pc = h.csrs.mepc }), s)
meaning b h s v word op.Wfi = (Done (record h { waiting = true; pc = (h.pc + 4) % 2 ^ 32 }), s)
