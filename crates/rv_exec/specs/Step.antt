-- One step of a hart: the six cases, in their order (RISC-V privileged manual, sections "Machine Interrupt (mip and mie) Registers", "Machine
-- Cause (mcause) Register" and "Wait for Interrupt"). Interrupts come before the fetch, the fetch before an unknown word, and that before what
-- the instruction itself raises.
use Rattle.std.specs.Prelude.{ℕ, ◌+◌, ◌%◌, ◌^◌, not, ◌&&◌, ◌||◌, if◌then◌else◌, Bool, false, Option, Some, None, Result, Ok, Err, replicate}
use Rattle.guest_ram.specs.declared.fault.MemFault.{MemFault}
use Rattle.csr_file.specs.declared.lines.Lines.{Lines}
use Rattle.csr_file.specs.declared.view.CsrView.{CsrView}
use Rattle.csr_file.specs.Causes as trap
use Rattle.csr_file.specs.Interrupts.{pending_of, wakes_of}
use Rattle.csr_file.specs.Traps.{trap_csrs, trap_pc, reset_csrs}
use Rattle.rv_word.specs.declared.op.Op.{Op}
use Rattle.rv_word.specs.Table.{search, table}
use Rattle.rv_exec.specs.declared.stepped.Stepped.{Stepped}
use Rattle.rv_exec.specs.declared.stepped.Stepped.TheVariants.{Idle, Retired, Trapped}
use Rattle.rv_exec.specs.BusOf.{BusOf}
use Rattle.rv_exec.specs.HartState.{HartState}
use Rattle.rv_exec.specs.Meaning.{Outcome, Done, Raises, meaning}

-- what a step leaves
pub record After (S : Type 0) : Type 0 where
  pub hart : HartState
  pub bus : S
  pub out : Stepped

abbrev pub opening_hart : ℕ → HartState
opening_hart pc = record { regs = replicate 32 0; pc = pc; waiting = false; csrs = reset_csrs; steps = 0; retired = 0 }

abbrev pub is_busy : HartState → Lines → Bool → Bool
is_busy h lines stopped = not stopped && (not h.waiting || wakes_of h.csrs lines)

abbrev pub view_of : {S : Type 0} → BusOf S → HartState → S → CsrView
view_of b h s = record { lines = b.lines_of s; time = b.now_of s; cycle = h.steps; instret = h.retired }

abbrev pub idled : {S : Type 0} → HartState → S → After S
idled h s = record { hart = record h { steps = (h.steps + 1) % 2 ^ 64 }; bus = s; out = Idle }

abbrev pub trap_hart : HartState → ℕ → ℕ → HartState
trap_hart h cause value = record h { csrs = trap_csrs h.csrs cause h.pc value; pc = trap_pc h.csrs cause; steps = (h.steps + 1) % 2 ^ 64 }

abbrev pub trapped : {S : Type 0} → HartState → S → ℕ → ℕ → After S
trapped h s cause value = record { hart = trap_hart h cause value; bus = s; out = Trapped cause h.pc }

abbrev pub finished : {S : Type 0} → HartState → ℕ → Outcome × S → After S
finished h word (Done h', s) = record {
  hart = record h' { steps = (h'.steps + 1) % 2 ^ 64; retired = (h'.retired + 1) % 2 ^ 64 };
  bus = s;
  out = Retired h.pc word;
}
finished h word (Raises cause value, s) = trapped h s cause value

abbrev pub decoded : {S : Type 0} → BusOf S → HartState → S → ℕ → Option Op → After S
decoded b h s word None = trapped h s trap.illegal_instruction word
decoded b h s word (Some op) = finished h word (meaning b h s (view_of b h s) word op)

abbrev pub fetched_step : {S : Type 0} → BusOf S → HartState → S → Result ℕ MemFault → After S
fetched_step b h s (Err e) = trapped h s trap.instruction_access_fault h.pc
fetched_step b h s (Ok word) = decoded b h s word (search table word)

abbrev pub after_pending : {S : Type 0} → BusOf S → HartState → S → Option ℕ → After S
after_pending b h s (Some cause) = trapped h s cause 0
after_pending b h s None = fetched_step b h s (b.fetched s h.pc)

abbrev pub awake : {S : Type 0} → BusOf S → HartState → S → After S
awake b h s = after_pending b h s (pending_of h.csrs (b.lines_of s))

abbrev pub step_of : {S : Type 0} → BusOf S → HartState → S → After S
step_of b h s = if is_busy h (b.lines_of s) (b.is_stopped s) then awake b (record h { waiting = false }) s else idled h s
