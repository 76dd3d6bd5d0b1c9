-- The causes of traps (RISC-V privileged manual, section "Machine Cause (mcause) Register").
use Rattle.std.specs.Prelude.{ℕ}

abbrev pub instruction_misaligned : ℕ
instruction_misaligned = 0

abbrev pub instruction_access_fault : ℕ
instruction_access_fault = 1

abbrev pub illegal_instruction : ℕ
illegal_instruction = 2

abbrev pub breakpoint : ℕ
breakpoint = 3

abbrev pub load_misaligned : ℕ
load_misaligned = 4

abbrev pub load_access_fault : ℕ
load_access_fault = 5

abbrev pub store_misaligned : ℕ
store_misaligned = 6

abbrev pub store_access_fault : ℕ
store_access_fault = 7

abbrev pub machine_call : ℕ
machine_call = 11

-- interrupts have the highest bit
abbrev pub software_interrupt : ℕ
software_interrupt = 0x80000003

abbrev pub timer_interrupt : ℕ
timer_interrupt = 0x80000007

abbrev pub external_interrupt : ℕ
external_interrupt = 0x8000000b
