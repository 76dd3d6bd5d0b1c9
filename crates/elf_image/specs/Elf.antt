-- Executable files of 32 bits, little-endian, for RISC-V: System V ABI, "Object Files" (the ELF header) and "Program Loading" (the program header).
use Rattle.std.specs.Prelude.{◌==◌, ℕ, zero, suc, ◌+◌, ◌-◌, ◌*◌, ◌%◌, ◌<◌, ◌≤◌, ◌&&◌, ◌||◌, ◌++◌, not, nat_le, nat_lt, nat_eq, Bool, List, [], ◌∷◌, length, drop, replicate, slice_index, slice_range, Option, Some, None, Result, Ok, Err, if◌then◌else◌}
use Rattle.std.specs.List.{starts_with}
use Rattle.byteorder.specs.Endian.{little_number}
use Rattle.guest_ram.specs.Bytes.{ram_base, ram_after}
use Rattle.elf_image.specs.declared.fault.ElfFault.{ElfFault}
use Rattle.elf_image.specs.declared.fault.ElfFault.TheVariants.{NotElf, Truncated, WrongKind, BadSegment, OutsideRam, BadEntry}
use Rattle.elf_image.specs.declared.segment.Segment.{Segment}

-- the number in two or four bytes from a place on, the low byte first
abbrev pub le16 : List ℕ → ℕ → ℕ
le16 b at = little_number 2 (drop at b)

abbrev pub le32 : List ℕ → ℕ → ℕ
le32 b at = little_number 4 (drop at b)

-- fields of the ELF header: where the program headers begin, and how many there are
abbrev pub phoff : List ℕ → ℕ
phoff b = le32 b 28

abbrev pub phnum : List ℕ → ℕ
phnum b = le16 b 44

-- class 32 bits, data low byte first, version 1; an executable file for RISC-V, version 1; program headers of 32 bytes
abbrev pub is_kind : List ℕ → Bool
is_kind b =
    slice_index b 4 == 1 && slice_index b 5 == 1 && slice_index b 6 == 1
    && le16 b 16 == 2 && le16 b 18 == 243 && le32 b 20 == 1
    && (phnum b == 0 || le16 b 42 == 32)

-- whether the addresses from one on lie in RAM of a size
abbrev pub in_ram : ℕ → ℕ → ℕ → Bool
in_ram size addr len = nat_le ram_base addr && nat_le (addr + len) (ram_base + size)

infixl 10 ◌>>=◌
abbrev pub ◌>>=◌ : {A B : Type 0} → Result A ElfFault → (A → Result B ElfFault) → Result B ElfFault
(Ok x) >>= f = f x
(Err e) >>= f = Err e

-- the header, and the program headers inside the file
unfoldable pub header : List ℕ → Result (Unit {0}) ElfFault
header b =
    if not (starts_with nat_eq b (0x7f ∷ 0x45 ∷ 0x4c ∷ 0x46 ∷ [])) then Err NotElf else
    if nat_lt (length b) 52 then Err Truncated else
    if not (is_kind b) then Err WrongKind else
    if not (phnum b == 0) && nat_lt (length b) (phoff b + 32 * phnum b) then Err Truncated else Ok tt

-- the same of a file that passed
pub record HasTable (b : List ℕ) : Type 0 where
  pub header : 52 ≤ length b
  pub table : 0 < phnum b → phoff b + 32 * phnum b ≤ length b

-- the segment of a program header, if its type is 1
abbrev pub segment_from : List ℕ → ℕ → Option Segment
segment_from b at =
    if le32 b at == 1 then Some (record { offset = le32 b (at + 4); paddr = le32 b (at + 12); filesz = le32 b (at + 16); memsz = le32 b (at + 20) }) else None

unfoldable pub segment_at : List ℕ → ℕ → Option Segment
segment_at b n = segment_from b (phoff b + 32 * n)

-- a segment whose bytes are in the file, and whose memory is in RAM
abbrev pub check_at : List ℕ → ℕ → ℕ → Segment → Result (Unit {0}) ElfFault
check_at b size n s =
    if nat_lt (length b) (s.offset + s.filesz) || nat_lt s.memsz s.filesz then Err (BadSegment n) else
    if not (s.memsz == 0) && not (in_ram size s.paddr s.memsz) then Err (OutsideRam n) else Ok tt

abbrev pub check_if : List ℕ → ℕ → ℕ → Option Segment → Result (Unit {0}) ElfFault
check_if b size n None = Ok tt
check_if b size n (Some s) = check_at b size n s

unfoldable pub segment_check : List ℕ → ℕ → ℕ → Result (Unit {0}) ElfFault
segment_check b size n = check_if b size n (segment_at b n)

-- so many segments from one on, in order
unfoldable pub segments : List ℕ → ℕ → ℕ → ℕ → Result (Unit {0}) ElfFault
segments b size n zero = Ok tt
segments b size n (suc m) = segment_check b size n >>= λ _. segments b size (n + 1) m

-- an entry that is a multiple of 4 in RAM
unfoldable pub entry : List ℕ → ℕ → Result ℕ ElfFault
entry b size = if le32 b 24 % 4 == 0 && in_ram size (le32 b 24) 1 then Ok (le32 b 24) else Err BadEntry

-- the entry of a file in RAM of a size, or the first fault
unfoldable pub elf_entry : List ℕ → ℕ → Result ℕ ElfFault
elf_entry b size = do
  _ ← header b
  _ ← segments b size 0 (phnum b)
  entry b size

-- the bytes of a segment: those of the file, then zeros
abbrev pub segment_bytes : List ℕ → Segment → List ℕ
segment_bytes b s = slice_range b s.offset (s.offset + s.filesz) ++ replicate (s.memsz - s.filesz) 0

-- RAM after a segment was put into it
abbrev pub put_at : List ℕ → List ℕ → Segment → List ℕ
put_at b ram s = if s.memsz == 0 then ram else ram_after ram s.paddr (segment_bytes b s)

abbrev pub put_if : List ℕ → List ℕ → Option Segment → List ℕ
put_if b ram None = ram
put_if b ram (Some s) = put_at b ram s

unfoldable pub put_segment : List ℕ → List ℕ → ℕ → List ℕ
put_segment b ram n = put_if b ram (segment_at b n)

-- RAM after so many segments from one on, a later one over an earlier one
unfoldable pub put_segments : List ℕ → List ℕ → ℕ → ℕ → List ℕ
put_segments b ram n zero = ram
put_segments b ram n (suc m) = put_segments b (put_segment b ram n) (n + 1) m

-- RAM with a file in it
abbrev pub elf_ram : List ℕ → List ℕ → List ℕ
elf_ram b ram = put_segments b ram 0 (phnum b)

-- a segment that can be put into RAM
pub record IsPlaceable (size : ℕ) (ram : List ℕ) (s : Segment) : Type 0 where
  pub file : s.offset + s.filesz ≤ size
  pub memory : s.filesz ≤ s.memsz
  pub low : 0 < s.memsz → ram_base ≤ s.paddr
  pub high : 0 < s.memsz → s.paddr + s.memsz ≤ ram_base + length ram
