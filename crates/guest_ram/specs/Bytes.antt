-- RAM as a list of bytes. A load or store moves a byte, a half word or a word, whose address is a multiple of its width and whose low byte
-- stands first (RISC-V unprivileged manual, section "Load and Store Instructions").
use Rattle.std.specs.Prelude.{◌≡◌, ℕ, ◌+◌, ◌-◌, ◌%◌, ◌^◌, ◌≤◌, nat_le, ◌==◌, ◌&&◌, not, if◌then◌else◌, Bool, Result, Ok, Err, List, length, slice_index, slice_set}
use Rattle.tb_base.specs.declared.width.Width.{Width}
use Rattle.tb_base.specs.declared.width.Width.TheVariants.{Byte, Half, Word}
use Rattle.tb_base.specs.Widths.{width_bytes}
use Rattle.byte_pages.specs.LittleEndian.{half_at, word_at, with_half, with_word, with_bytes}
use Rattle.guest_ram.specs.declared.fault.MemFault.{MemFault}
use Rattle.guest_ram.specs.declared.fault.MemFault.TheVariants.{Misaligned, Outside}

-- the address of the first byte of RAM: 0x8000_0000, by this machine's map of addresses
abbrev pub ram_base : ℕ
ram_base = 2147483648

-- a size that RAM can have: whole pages of 4096 bytes, and 16 MiB at most
abbrev pub IsRamSize : ℕ → Type 0
IsRamSize size = (4096 ≤ size) × (size ≤ 16777216) × (size % 4096 ≡ 0)

-- whether the bytes from an address on lie in RAM
abbrev pub holds_range : List ℕ → ℕ → ℕ → Bool
holds_range bytes addr len = nat_le ram_base addr && nat_le (addr + len) (ram_base + length bytes)

-- the same as a fact
abbrev pub IsInRam : List ℕ → ℕ → ℕ → Type 0
IsInRam bytes addr len = (ram_base ≤ addr) × (addr + len ≤ ram_base + length bytes)

-- the number that stands from an index on, low byte first
abbrev pub value_at : List ℕ → ℕ → Width → ℕ
value_at bytes at Byte = slice_index bytes at
value_at bytes at Half = half_at bytes at
value_at bytes at Word = word_at bytes at

-- the bytes after the low bytes of a number were put from an index on, low byte first
abbrev pub bytes_after : List ℕ → ℕ → Width → ℕ → List ℕ
bytes_after bytes at Byte v = slice_set bytes at (v % 2 ^ 8)
bytes_after bytes at Half v = with_half bytes at v
bytes_after bytes at Word v = with_word bytes at v

-- the index of an access in the list: Misaligned where the address is no multiple of the width, else
-- Outside where the bytes are not inside RAM
abbrev pub index_of : List ℕ → ℕ → Width → Result ℕ MemFault
index_of bytes addr width =
    if not (addr % width_bytes width == 0) then Err Misaligned else
    if holds_range bytes addr (width_bytes width) then Ok (addr - ram_base) else Err Outside

-- what is found at the index, or the refusal
abbrev pub at_index : {A : Type 0} → Result ℕ MemFault → (ℕ → A) → Result A MemFault
at_index (Ok at) f = Ok (f at)
at_index (Err e) f = Err e

-- what a load answers
abbrev pub ram_load : List ℕ → ℕ → Width → Result ℕ MemFault
ram_load bytes addr width = at_index (index_of bytes addr width) (λ at. value_at bytes at width)

-- the bytes that a store leaves, or why it is refused
abbrev pub ram_store : List ℕ → ℕ → Width → ℕ → Result (List ℕ) MemFault
ram_store bytes addr width v = at_index (index_of bytes addr width) (λ at. bytes_after bytes at width v)

-- RAM after these bytes were put from an address on
abbrev pub ram_after : List ℕ → ℕ → List ℕ → List ℕ
ram_after bytes addr put = with_bytes bytes (addr - ram_base) put
