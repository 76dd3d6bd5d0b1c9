-- The word of each instruction is read as that instruction: a lemma for each format, and a line for each instruction.
use Rattle.std.proofs.Common.{◌≡◌, ℕ, ◌<◌, ◌/◌, ◌%◌, ◌^◌, nat_lt, Bool, true, false, cond, Some, ℤ, refl, ◌∙◌, arith}
use Rattle.std.proofs.lemmas.Bool.Decides.{nat_tests}
use Rattle.std.specs.Int.{w32, cast_unsigned}
use Rattle.rv_word.specs.declared.op.Op.{Op}
use Rattle.rv_word.specs.declared.op.Op.TheVariants as op
use Rattle.rv_word.specs.Fields.{rd_of, rs1_of, rs2_of, csr_of, imm_i, imm_s, imm_b, imm_u}
use Rattle.rv_word.specs.Ranges.{IsRegister, IsSigned, IsMultiple, IsInRange}
use Rattle.rv_word.specs.Table.{search, table}
use Rattle.rv_word.proofs.Found.{found, found_at}
use Rattle.guest_asm.specs.Layout.{word_of, r_word, i_word, s_word, b_word, u_word, j_word, branch_high, branch_low, jump_bits}
use Rattle.guest_asm.specs.OpWord.{op_word, IsSignedWord}
use Rattle.guest_asm.proofs.Read.{fields, register_fields, upper_fields, immediate_same, store_same, branch_same, upper_same, jump_same, upper_short, jump_short}

-- funct3 and an opcode are short
short : ℕ → ℕ → Bool
short f3 opc = cond (nat_lt f3 8) (nat_lt opc 128) false

short_tells : (f3 opc : ℕ) → short f3 opc ≡ true → (f3 < 8) × (opc < 128)
unfolding short
short_tells f3 opc e = grind (arith, nat_tests)

register_read : (make : ℕ → ℕ → ℕ → Op) (w rd rs1 rs2 f7 f3 opc : ℕ) → w ≡ r_word f7 rs2 rs1 f3 rd opc → IsRegister rd → IsRegister rs1 → rs2 < 32 → f7 < 128 → short f3 opc ≡ true →
    ((v : ℕ) → found table opc f3 f7 v ≡ Some (make (rd_of v) (rs1_of v) (rs2_of v))) → search table w ≡ Some (make rd rs1 rs2)
register_read make w rd rs1 rs2 f7 f3 opc e a b d u s row =
    let n = short_tells f3 opc s in
    let f = register_fields w f7 rs2 rs1 f3 rd opc e u d b n.0 a n.1 in
    found_at w opc f3 f7 f.short f.opcode f.funct3 f.funct7 ∙ row w ∙ rw (f.rd, f.rs1, f.rs2) refl

immediate_read : (make : ℕ → ℕ → ℤ → Op) (w rd rs1 f3 opc : ℕ) (imm : ℤ) → w ≡ i_word imm rs1 f3 rd opc → IsRegister rd → IsRegister rs1 → IsSigned 0x800 imm → short f3 opc ≡ true →
    ((v f7 : ℕ) → found table opc f3 f7 v ≡ Some (make (rd_of v) (rs1_of v) (imm_i v))) → search table w ≡ Some (make rd rs1 imm)
immediate_read make w rd rs1 f3 opc imm e a b i s row =
    let n = short_tells f3 opc s in
    let f = fields w (cast_unsigned w32 imm % 2 ^ 12) rs1 f3 rd opc e (omega arith) b n.0 a n.1 in
    found_at w opc f3 (w / 2 ^ 25) f.short f.opcode f.funct3 refl ∙ row w (w / 2 ^ 25) ∙ rw (f.rd, f.rs1, immediate_same w imm f.upper i) refl

csr_read : (make : ℕ → ℕ → ℕ → Op) (w rd csr rs1 f3 : ℕ) → w ≡ word_of csr rs1 f3 rd 0x73 → IsRegister rd → csr < 4096 → rs1 < 32 → short f3 0x73 ≡ true →
    ((v f7 : ℕ) → found table 0x73 f3 f7 v ≡ Some (make (rd_of v) (csr_of v) (rs1_of v))) → search table w ≡ Some (make rd csr rs1)
csr_read make w rd csr rs1 f3 e a c b s row =
    let n = short_tells f3 0x73 s in
    let f = fields w csr rs1 f3 rd 0x73 e c b n.0 a n.1 in
    found_at w 0x73 f3 (w / 2 ^ 25) f.short f.opcode f.funct3 refl ∙ row w (w / 2 ^ 25) ∙ rw (f.rd, f.rs1, f.upper) refl

store_read : (make : ℕ → ℕ → ℤ → Op) (w rs1 rs2 f3 : ℕ) (imm : ℤ) → w ≡ s_word imm rs2 rs1 f3 → IsRegister rs1 → IsRegister rs2 → IsSigned 0x800 imm → short f3 0x23 ≡ true →
    ((v f7 : ℕ) → found table 0x23 f3 f7 v ≡ Some (make (rs1_of v) (rs2_of v) (imm_s v))) → search table w ≡ Some (make rs1 rs2 imm)
store_read make w rs1 rs2 f3 imm e a b i s row =
    let n = short_tells f3 0x23 s in
    let f = register_fields w (cast_unsigned w32 imm / 2 ^ 5 % 2 ^ 7) rs2 rs1 f3 (cast_unsigned w32 imm % 2 ^ 5) 0x23 e (omega arith) b a n.0 (omega arith) n.1 in
    found_at w 0x23 f3 (w / 2 ^ 25) f.short f.opcode f.funct3 refl ∙ row w (w / 2 ^ 25) ∙ rw (f.rs1, f.rs2, store_same w imm f.funct7 f.rd i) refl

branch_read : (make : ℕ → ℕ → ℤ → Op) (w rs1 rs2 f3 : ℕ) (imm : ℤ) → w ≡ b_word imm rs2 rs1 f3 → IsRegister rs1 → IsRegister rs2 → IsSigned 0x1000 imm → IsMultiple 2 imm → short f3 0x63 ≡ true →
    ((v f7 : ℕ) → found table 0x63 f3 f7 v ≡ Some (make (rs1_of v) (rs2_of v) (imm_b v))) → search table w ≡ Some (make rs1 rs2 imm)
branch_read make w rs1 rs2 f3 imm e a b i m s row =
    let n = short_tells f3 0x63 s in
    let f = register_fields w (branch_high (cast_unsigned w32 imm)) rs2 rs1 f3 (branch_low (cast_unsigned w32 imm)) 0x63 e (omega arith) b a n.0 (omega arith) n.1 in
    found_at w 0x63 f3 (w / 2 ^ 25) f.short f.opcode f.funct3 refl ∙ row w (w / 2 ^ 25) ∙ rw (f.rs1, f.rs2, branch_same w imm f.funct7 f.rd i m) refl

upper_read : (make : ℕ → ℤ → Op) (w rd opc : ℕ) (imm : ℤ) → w ≡ u_word imm rd opc → IsRegister rd → IsMultiple 4096 imm → IsSigned 0x80000000 imm → opc < 128 →
    ((v f3 f7 : ℕ) → found table opc f3 f7 v ≡ Some (make (rd_of v) (imm_u v))) → search table w ≡ Some (make rd imm)
upper_read make w rd opc imm e a m i h row =
    let f = upper_fields w (cast_unsigned w32 imm / 2 ^ 12) rd opc e (upper_short imm i) a h in
    found_at w opc (w / 2 ^ 12 % 8) (w / 2 ^ 25) f.short f.opcode refl refl ∙ row w (w / 2 ^ 12 % 8) (w / 2 ^ 25) ∙ rw (f.rd, upper_same w imm f.upper i m) refl

jump_read : (w rd : ℕ) (imm : ℤ) → w ≡ j_word imm rd → IsRegister rd → IsSigned 0x100000 imm → IsMultiple 2 imm → search table w ≡ Some (op.Jal rd imm)
unfolding found table
jump_read w rd imm e a i m =
    let f = upper_fields w (jump_bits (cast_unsigned w32 imm)) rd 0x6f e (jump_short imm) a (omega arith) in
    found_at w 0x6f (w / 2 ^ 12 % 8) (w / 2 ^ 25) f.short f.opcode refl refl ∙ rw (f.rd, jump_same w imm f.upper i m) refl

pub encoded : (o : Op) → IsInRange o → IsSignedWord o → search table (op_word o) ≡ Some o
unfolding search found table short
encoded (op.Lui rd imm) (a, m) i = upper_read op.Lui _ rd 0x37 imm refl a m i (omega arith) (λ v f3 f7. refl)
encoded (op.Auipc rd imm) (a, m) i = upper_read op.Auipc _ rd 0x17 imm refl a m i (omega arith) (λ v f3 f7. refl)
encoded (op.Jal rd imm) (a, s, m) i = jump_read _ rd imm refl a s m
encoded (op.Jalr rd rs1 imm) (a, b, s) i = immediate_read op.Jalr _ rd rs1 0 0x67 imm refl a b s refl (λ v f7. refl)
encoded (op.Beq rs1 rs2 imm) (a, b, s, m) i = branch_read op.Beq _ rs1 rs2 0 imm refl a b s m refl (λ v f7. refl)
encoded (op.Bne rs1 rs2 imm) (a, b, s, m) i = branch_read op.Bne _ rs1 rs2 1 imm refl a b s m refl (λ v f7. refl)
encoded (op.Blt rs1 rs2 imm) (a, b, s, m) i = branch_read op.Blt _ rs1 rs2 4 imm refl a b s m refl (λ v f7. refl)
encoded (op.Bge rs1 rs2 imm) (a, b, s, m) i = branch_read op.Bge _ rs1 rs2 5 imm refl a b s m refl (λ v f7. refl)
encoded (op.Bltu rs1 rs2 imm) (a, b, s, m) i = branch_read op.Bltu _ rs1 rs2 6 imm refl a b s m refl (λ v f7. refl)
encoded (op.Bgeu rs1 rs2 imm) (a, b, s, m) i = branch_read op.Bgeu _ rs1 rs2 7 imm refl a b s m refl (λ v f7. refl)
encoded (op.Lb rd rs1 imm) (a, b, s) i = immediate_read op.Lb _ rd rs1 0 0x03 imm refl a b s refl (λ v f7. refl)
encoded (op.Lh rd rs1 imm) (a, b, s) i = immediate_read op.Lh _ rd rs1 1 0x03 imm refl a b s refl (λ v f7. refl)
encoded (op.Lw rd rs1 imm) (a, b, s) i = immediate_read op.Lw _ rd rs1 2 0x03 imm refl a b s refl (λ v f7. refl)
encoded (op.Lbu rd rs1 imm) (a, b, s) i = immediate_read op.Lbu _ rd rs1 4 0x03 imm refl a b s refl (λ v f7. refl)
encoded (op.Lhu rd rs1 imm) (a, b, s) i = immediate_read op.Lhu _ rd rs1 5 0x03 imm refl a b s refl (λ v f7. refl)
encoded (op.Sb rs1 rs2 imm) (a, b, s) i = store_read op.Sb _ rs1 rs2 0 imm refl a b s refl (λ v f7. refl)
encoded (op.Sh rs1 rs2 imm) (a, b, s) i = store_read op.Sh _ rs1 rs2 1 imm refl a b s refl (λ v f7. refl)
encoded (op.Sw rs1 rs2 imm) (a, b, s) i = store_read op.Sw _ rs1 rs2 2 imm refl a b s refl (λ v f7. refl)
encoded (op.Addi rd rs1 imm) (a, b, s) i = immediate_read op.Addi _ rd rs1 0 0x13 imm refl a b s refl (λ v f7. refl)
encoded (op.Slti rd rs1 imm) (a, b, s) i = immediate_read op.Slti _ rd rs1 2 0x13 imm refl a b s refl (λ v f7. refl)
encoded (op.Sltiu rd rs1 imm) (a, b, s) i = immediate_read op.Sltiu _ rd rs1 3 0x13 imm refl a b s refl (λ v f7. refl)
encoded (op.Xori rd rs1 imm) (a, b, s) i = immediate_read op.Xori _ rd rs1 4 0x13 imm refl a b s refl (λ v f7. refl)
encoded (op.Ori rd rs1 imm) (a, b, s) i = immediate_read op.Ori _ rd rs1 6 0x13 imm refl a b s refl (λ v f7. refl)
encoded (op.Andi rd rs1 imm) (a, b, s) i = immediate_read op.Andi _ rd rs1 7 0x13 imm refl a b s refl (λ v f7. refl)
encoded (op.Slli rd rs1 shamt) (a, b, d) i = register_read op.Slli _ rd rs1 shamt 0x00 1 0x13 refl a b d (omega arith) refl (λ v. refl)
encoded (op.Srli rd rs1 shamt) (a, b, d) i = register_read op.Srli _ rd rs1 shamt 0x00 5 0x13 refl a b d (omega arith) refl (λ v. refl)
encoded (op.Srai rd rs1 shamt) (a, b, d) i = register_read op.Srai _ rd rs1 shamt 0x20 5 0x13 refl a b d (omega arith) refl (λ v. refl)
encoded (op.Add rd rs1 rs2) (a, b, d) i = register_read op.Add _ rd rs1 rs2 0x00 0 0x33 refl a b d (omega arith) refl (λ v. refl)
encoded (op.Sub rd rs1 rs2) (a, b, d) i = register_read op.Sub _ rd rs1 rs2 0x20 0 0x33 refl a b d (omega arith) refl (λ v. refl)
encoded (op.Sll rd rs1 rs2) (a, b, d) i = register_read op.Sll _ rd rs1 rs2 0x00 1 0x33 refl a b d (omega arith) refl (λ v. refl)
encoded (op.Slt rd rs1 rs2) (a, b, d) i = register_read op.Slt _ rd rs1 rs2 0x00 2 0x33 refl a b d (omega arith) refl (λ v. refl)
encoded (op.Sltu rd rs1 rs2) (a, b, d) i = register_read op.Sltu _ rd rs1 rs2 0x00 3 0x33 refl a b d (omega arith) refl (λ v. refl)
encoded (op.Xor rd rs1 rs2) (a, b, d) i = register_read op.Xor _ rd rs1 rs2 0x00 4 0x33 refl a b d (omega arith) refl (λ v. refl)
encoded (op.Srl rd rs1 rs2) (a, b, d) i = register_read op.Srl _ rd rs1 rs2 0x00 5 0x33 refl a b d (omega arith) refl (λ v. refl)
encoded (op.Sra rd rs1 rs2) (a, b, d) i = register_read op.Sra _ rd rs1 rs2 0x20 5 0x33 refl a b d (omega arith) refl (λ v. refl)
encoded (op.Or rd rs1 rs2) (a, b, d) i = register_read op.Or _ rd rs1 rs2 0x00 6 0x33 refl a b d (omega arith) refl (λ v. refl)
encoded (op.And rd rs1 rs2) (a, b, d) i = register_read op.And _ rd rs1 rs2 0x00 7 0x33 refl a b d (omega arith) refl (λ v. refl)
encoded (op.Mul rd rs1 rs2) (a, b, d) i = register_read op.Mul _ rd rs1 rs2 0x01 0 0x33 refl a b d (omega arith) refl (λ v. refl)
encoded (op.Mulh rd rs1 rs2) (a, b, d) i = register_read op.Mulh _ rd rs1 rs2 0x01 1 0x33 refl a b d (omega arith) refl (λ v. refl)
encoded (op.Mulhsu rd rs1 rs2) (a, b, d) i = register_read op.Mulhsu _ rd rs1 rs2 0x01 2 0x33 refl a b d (omega arith) refl (λ v. refl)
encoded (op.Mulhu rd rs1 rs2) (a, b, d) i = register_read op.Mulhu _ rd rs1 rs2 0x01 3 0x33 refl a b d (omega arith) refl (λ v. refl)
encoded (op.Div rd rs1 rs2) (a, b, d) i = register_read op.Div _ rd rs1 rs2 0x01 4 0x33 refl a b d (omega arith) refl (λ v. refl)
encoded (op.Divu rd rs1 rs2) (a, b, d) i = register_read op.Divu _ rd rs1 rs2 0x01 5 0x33 refl a b d (omega arith) refl (λ v. refl)
encoded (op.Rem rd rs1 rs2) (a, b, d) i = register_read op.Rem _ rd rs1 rs2 0x01 6 0x33 refl a b d (omega arith) refl (λ v. refl)
encoded (op.Remu rd rs1 rs2) (a, b, d) i = register_read op.Remu _ rd rs1 rs2 0x01 7 0x33 refl a b d (omega arith) refl (λ v. refl)
encoded op.Fence r i = refl
encoded op.FenceI r i = refl
encoded (op.Csrrw rd csr rs1) (a, c, b) i = csr_read op.Csrrw _ rd csr rs1 1 refl a c b refl (λ v f7. refl)
encoded (op.Csrrs rd csr rs1) (a, c, b) i = csr_read op.Csrrs _ rd csr rs1 2 refl a c b refl (λ v f7. refl)
encoded (op.Csrrc rd csr rs1) (a, c, b) i = csr_read op.Csrrc _ rd csr rs1 3 refl a c b refl (λ v f7. refl)
encoded (op.Csrrwi rd csr zimm) (a, c, b) i = csr_read op.Csrrwi _ rd csr zimm 5 refl a c b refl (λ v f7. refl)
encoded (op.Csrrsi rd csr zimm) (a, c, b) i = csr_read op.Csrrsi _ rd csr zimm 6 refl a c b refl (λ v f7. refl)
encoded (op.Csrrci rd csr zimm) (a, c, b) i = csr_read op.Csrrci _ rd csr zimm 7 refl a c b refl (λ v f7. refl)
encoded op.Ecall r i = refl
encoded op.Ebreak r i = refl
encoded op.Mret r i = refl
encoded op.Wfi r i = refl
