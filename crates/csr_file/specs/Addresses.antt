-- The addresses of the control and status registers (RISC-V privileged manual, section "CSR Listing").
use Rattle.std.specs.Prelude.{ℕ}

abbrev pub mstatus : ℕ
mstatus = 0x300

abbrev pub misa : ℕ
misa = 0x301

abbrev pub mie : ℕ
mie = 0x304

abbrev pub mtvec : ℕ
mtvec = 0x305

abbrev pub mstatush : ℕ
mstatush = 0x310

abbrev pub mscratch : ℕ
mscratch = 0x340

abbrev pub mepc : ℕ
mepc = 0x341

abbrev pub mcause : ℕ
mcause = 0x342

abbrev pub mtval : ℕ
mtval = 0x343

abbrev pub mip : ℕ
mip = 0x344

abbrev pub cycle : ℕ
cycle = 0xc00

abbrev pub time : ℕ
time = 0xc01

abbrev pub instret : ℕ
instret = 0xc02

abbrev pub cycleh : ℕ
cycleh = 0xc80

abbrev pub timeh : ℕ
timeh = 0xc81

abbrev pub instreth : ℕ
instreth = 0xc82

-- the first and the last of mvendorid, marchid, mimpid, mhartid and mconfigptr
abbrev pub mvendorid : ℕ
mvendorid = 0xf11

abbrev pub mconfigptr : ℕ
mconfigptr = 0xf15
