-- Reset, trap entry and return (RISC-V privileged manual, sections "Reset", "Privilege and Global
-- Interrupt-Enable Stack in mstatus register" and "Machine Trap-Vector Base-Address (mtvec) Register").
use Rattle.std.specs.Prelude.{ℕ, ◌+◌, ◌*◌, ◌-◌, ◌/◌, ◌%◌, ◌^◌, nat_le, ◌==◌, ◌&&◌, if◌then◌else◌, true, false}
use Rattle.csr_file.specs.Csrs.{Csrs}

abbrev pub reset_csrs : Csrs
reset_csrs =
    record { enabled = false; was_enabled = false; mie = 0; mtvec = 0; mscratch = 0; mepc = 0; mcause = 0; mtval = 0 }

-- after a trap with a cause and a value at a pc
abbrev pub trap_csrs : Csrs → ℕ → ℕ → ℕ → Csrs
trap_csrs c cause pc value =
    record c { enabled = false; was_enabled = c.enabled; mepc = pc / 4 * 4; mcause = cause; mtval = value }

-- the pc after it: the base of mtvec, and for an interrupt in mode 1 four times its number further on
abbrev pub trap_pc : Csrs → ℕ → ℕ
trap_pc c cause =
    if c.mtvec % 2 == 1 && nat_le (2 ^ 31) cause then (c.mtvec / 4 * 4 + (cause - 2 ^ 31) * 4) % 2 ^ 32 else c.mtvec / 4 * 4

-- after MRET
abbrev pub mret_csrs : Csrs → Csrs
mret_csrs c = record c { enabled = c.was_enabled; was_enabled = true }
