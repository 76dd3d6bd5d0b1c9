-- A step of a hart that is awake makes one store at most.
use Rattle.std.proofs.Common.{◌≡◌, ℕ, Option, Some, None, Result, Ok, Err, inl, inr, refl}
use Rattle.tb_base.specs.declared.width.Width.{Width}
use Rattle.tb_base.specs.declared.width.Width.TheVariants.{Byte, Half, Word}
use Rattle.guest_ram.specs.declared.fault.MemFault.{MemFault}
use Rattle.csr_file.specs.declared.view.CsrView.{CsrView}
use Rattle.csr_file.specs.Interrupts.{pending_of}
use Rattle.rv_word.specs.declared.op.Op.{Op}
use Rattle.rv_word.specs.declared.op.Op.TheVariants as op
use Rattle.rv_word.specs.Table.{search, table}
use Rattle.rv_exec.specs.BusOf.{BusOf}
use Rattle.rv_exec.specs.HartState.{HartState}
use Rattle.rv_exec.specs.Meaning.{Outcome, Done, Raises, meaning, reg_of, address, store_done, store_to}
use Rattle.rv_exec.specs.Moves.{Moves}
use Rattle.rv_exec.specs.Step.{finished, decoded, fetched_step, after_pending, awake}

store_moves : {S : Type 0} (b : BusOf S) (h : HartState) (s : S) (width : Width) (value addr : ℕ) (r : Result S MemFault) → b.stored s addr width value ≡ r →
    Moves b s (store_done h s addr r).1
store_moves b h s width value addr (Ok s') e = inr (addr, (width, (value, e)))
store_moves b h s width value addr (Err x) e = inl refl

store_to_moves : {S : Type 0} (b : BusOf S) (h : HartState) (s : S) (width : Width) (value addr : ℕ) → Moves b s (store_to b h s width value addr).1
store_to_moves b h s width value addr = store_moves b h s width value addr (b.stored s addr width value) refl

meaning_moves : {S : Type 0} (b : BusOf S) (h : HartState) (s : S) (v : CsrView) (word : ℕ) (o : Op) → Moves b s (meaning b h s v word o).1
meaning_moves b h s v word (op.Sb rs1 rs2 imm) = store_to_moves b h s Byte (reg_of h rs2) (address h rs1 imm)
meaning_moves b h s v word (op.Sh rs1 rs2 imm) = store_to_moves b h s Half (reg_of h rs2) (address h rs1 imm)
meaning_moves b h s v word (op.Sw rs1 rs2 imm) = store_to_moves b h s Word (reg_of h rs2) (address h rs1 imm)
meaning_moves b h s v word o = inl refl

finished_moves : {S : Type 0} (b : BusOf S) (h : HartState) (s : S) (word : ℕ) (o : Outcome × S) → Moves b s o.1 → Moves b s (finished h word o).bus
finished_moves b h s word (Done h', s') m = m
finished_moves b h s word (Raises cause value, s') m = m

decoded_moves : {S : Type 0} (b : BusOf S) (h : HartState) (s : S) (word : ℕ) (o : Option Op) → Moves b s (decoded b h s word o).bus
decoded_moves b h s word None = inl refl
decoded_moves b h s word (Some o) = finished_moves b h s word (meaning b h s (record { lines = b.lines_of s; time = b.now_of s; cycle = h.steps; instret = h.retired }) word o) (meaning_moves b h s (record { lines = b.lines_of s; time = b.now_of s; cycle = h.steps; instret = h.retired }) word o)

fetched_moves : {S : Type 0} (b : BusOf S) (h : HartState) (s : S) (r : Result ℕ MemFault) → Moves b s (fetched_step b h s r).bus
fetched_moves b h s (Err e) = inl refl
fetched_moves b h s (Ok word) = decoded_moves b h s word (search table word)

pending_moves : {S : Type 0} (b : BusOf S) (h : HartState) (s : S) (p : Option ℕ) → Moves b s (after_pending b h s p).bus
pending_moves b h s (Some cause) = inl refl
pending_moves b h s None = fetched_moves b h s (b.fetched s h.pc)

pub awake_moves : {S : Type 0} (b : BusOf S) (h : HartState) (s : S) → Moves b s (awake b h s).bus
awake_moves b h s = pending_moves b h s (pending_of h.csrs (b.lines_of s))
