-- The table of control and status registers (RISC-V privileged manual, chapter "Machine-Level ISA").
-- Which registers there are, and which bits are fixed, is this machine's choice among what the manual
-- allows.
use Rattle.std.specs.Prelude.{ℕ, ◌+◌, ◌*◌, ◌/◌, ◌%◌, ◌^◌, nat_le, ◌==◌, ◌&&◌, ◌||◌, if◌then◌else◌, Bool, Option, Some, None, bit_and}
use Rattle.csr_file.specs.declared.lines.Lines.{Lines}
use Rattle.csr_file.specs.declared.view.CsrView.{CsrView}
use Rattle.csr_file.specs.Csrs.{Csrs, bit_of}
use Rattle.csr_file.specs.Addresses as csr

-- mip shows the lines: bit 3 is software, 7 timer, 11 external
abbrev pub mip_of : Lines → ℕ
mip_of l = 8 * bit_of l.software + 128 * bit_of l.timer + 2048 * bit_of l.external

-- What a register reads. Of mstatus MPP is 3, machine mode, bit 3 is MIE and bit 7 MPIE; misa says 32 bits and the extensions I and M;
-- mstatush and the five registers from mvendorid to mconfigptr read 0.
abbrev pub csr_read : Csrs → CsrView → ℕ → Option ℕ
csr_read c v addr =
    if addr == csr.mstatus then Some (0x1800 + 8 * bit_of c.enabled + 128 * bit_of c.was_enabled) else
    if addr == csr.misa then Some 0x40001100 else
    if addr == csr.mie then Some c.mie else
    if addr == csr.mtvec then Some c.mtvec else
    if addr == csr.mstatush then Some 0 else
    if addr == csr.mscratch then Some c.mscratch else
    if addr == csr.mepc then Some c.mepc else
    if addr == csr.mcause then Some c.mcause else
    if addr == csr.mtval then Some c.mtval else
    if addr == csr.mip then Some (mip_of v.lines) else
    if addr == csr.cycle then Some (v.cycle % 2 ^ 32) else
    if addr == csr.cycleh then Some (v.cycle / 2 ^ 32) else
    if addr == csr.time then Some (v.time % 2 ^ 32) else
    if addr == csr.timeh then Some (v.time / 2 ^ 32) else
    if addr == csr.instret then Some (v.instret % 2 ^ 32) else
    if addr == csr.instreth then Some (v.instret / 2 ^ 32) else
    if nat_le csr.mvendorid addr && nat_le addr csr.mconfigptr then Some 0 else None

-- there is a register of this address that can be written
abbrev pub is_writable : ℕ → Bool
is_writable addr =
    addr == csr.mstatus || addr == csr.misa || addr == csr.mie || addr == csr.mtvec || addr == csr.mstatush || (nat_le csr.mscratch addr && nat_le addr csr.mip)

-- the registers after a write: of mstatus bits 3 and 7 are kept, of mie bits 3, 7 and 11, of mtvec all
-- but bit 1, of mepc all but bits 1 and 0; misa, mstatush and mip ignore it
abbrev pub csr_write : Csrs → ℕ → ℕ → Csrs
csr_write c addr v =
    if addr == csr.mstatus then record c { enabled = v / 8 % 2 == 1; was_enabled = v / 128 % 2 == 1 } else
    if addr == csr.mie then record c { mie = bit_and v 0x888 } else
    if addr == csr.mtvec then record c { mtvec = bit_and v 0xfffffffd } else
    if addr == csr.mscratch then record c { mscratch = v } else
    if addr == csr.mepc then record c { mepc = v / 4 * 4 } else
    if addr == csr.mcause then record c { mcause = v } else
    if addr == csr.mtval then record c { mtval = v } else c
