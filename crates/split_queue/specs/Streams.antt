-- The two streams of a chain: what stands in its ranges, joined (virtio 1.2, section 2.7.4, "Message Framing").
use Rattle.std.specs.Prelude.{ℕ, ◌+◌, ◌-◌, if◌then◌else◌, nat_lt, List, [], ◌∷◌, slice_range, length}
use Rattle.std.specs.List.{flat_map, sum_by}
use Rattle.guest_ram.specs.Bytes.{ram_after}
use Rattle.split_queue.specs.Sizes.{InSize}
use Rattle.split_queue.specs.declared.range.Range.{Range}
use Rattle.split_queue.specs.Chains.{ChainOf}

-- the bytes of a range
abbrev pub range_bytes : List ℕ → Range → List ℕ
range_bytes ram r = slice_range ram (r.addr - 0x80000000) (r.addr - 0x80000000 + r.len)

-- the joined ranges
abbrev pub stream : List ℕ → List Range → List ℕ
stream ram rs = flat_map (range_bytes ram) rs

-- how long the joined ranges are
abbrev pub stream_len : List Range → ℕ
stream_len rs = sum_by (λ (r : Range). r.len) rs

-- each range lies in a RAM of n bytes
abbrev pub RangesFit : ℕ → List Range → Type 0
RangesFit n [] = Unit {0}
RangesFit n (r ∷ rs) = InSize n r.addr r.len × RangesFit n rs

abbrev pub RangesIn : List ℕ → List Range → Type 0
RangesIn ram rs = RangesFit (length ram) rs

-- the address of a byte of the stream
abbrev pub address_of : List Range → ℕ → ℕ
address_of [] i = 0
address_of (r ∷ rs) i = if nat_lt i r.len then r.addr + i else address_of rs (i - r.len)

-- RAM after bytes were written to the stream from a place on, one after the other
abbrev pub written : List ℕ → List Range → ℕ → List ℕ → List ℕ
written ram rs pos [] = ram
written ram rs pos (b ∷ bs) = written (ram_after ram (address_of rs pos) (b ∷ [])) rs (pos + 1) bs

-- each range of a chain lies in a RAM of n bytes
abbrev pub ChainFits : ℕ → ChainOf → Type 0
ChainFits n c = RangesFit n c.readable × RangesFit n c.writable

abbrev pub ChainIn : List ℕ → ChainOf → Type 0
ChainIn ram c = ChainFits (length ram) c
