-- Which interrupt is taken (RISC-V privileged manual, section "Machine Interrupt (mip and mie) Registers").
use Rattle.std.specs.Prelude.{ℕ, ◌/◌, ◌%◌, ◌==◌, ◌&&◌, ◌||◌, not, if◌then◌else◌, Bool, Option, Some, None}
use Rattle.csr_file.specs.declared.lines.Lines.{Lines}
use Rattle.csr_file.specs.Csrs.{Csrs}
use Rattle.csr_file.specs.Causes as trap

-- a line that is both up and enabled in mie, of which bit 3 is software, 7 timer and 11 external
abbrev pub external_of : Csrs → Lines → Bool
external_of c l = l.external && c.mie / 2048 % 2 == 1

abbrev pub software_of : Csrs → Lines → Bool
software_of c l = l.software && c.mie / 8 % 2 == 1

abbrev pub timer_of : Csrs → Lines → Bool
timer_of c l = l.timer && c.mie / 128 % 2 == 1

-- the cause of the interrupt that is taken: external comes before software, and software before timer
abbrev pub pending_of : Csrs → Lines → Option ℕ
pending_of c l =
    if not c.enabled then None else
    if external_of c l then Some trap.external_interrupt else
    if software_of c l then Some trap.software_interrupt else
    if timer_of c l then Some trap.timer_interrupt else None

-- what ends a wait, whether interrupts are taken or not (section "Wait for Interrupt")
abbrev pub wakes_of : Csrs → Lines → Bool
wakes_of c l = external_of c l || software_of c l || timer_of c l
