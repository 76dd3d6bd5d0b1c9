-- Paths: lists of descriptors in which each next is the one named (virtio 1.2, section 2.7.5, "The Virtqueue Descriptor Table").
use Rattle.std.specs.Prelude.{ℕ, zero, suc, ◌+◌, Bool, false, not, ◌&&◌, ◌||◌, ◌==◌, if◌then◌else◌, nat_le, Option, Some, None, is_some, Result, Ok, Err, List, [], ◌∷◌, ◌++◌, map}
use Rattle.std.specs.List.{filter}
use Rattle.tb_base.specs.declared.why.Why.{Why}
use Rattle.tb_base.specs.declared.why.Why.TheVariants.{Loop, Indirect, RangeOutside, OrderWrong, NextRange}
use Rattle.guest_ram.specs.Bytes.{holds_range}
use Rattle.split_queue.specs.declared.descriptor.Descriptor.{Descriptor}
use Rattle.split_queue.specs.declared.range.Range.{Range}
use Rattle.split_queue.specs.Chains.{ChainOf, chain_of}
use Rattle.split_queue.specs.Rings.{descriptor_at}

-- where a path begins: RAM, the table's address, the size of the queue, and the head
pub record Start : Type 0 where
  pub ram : List ℕ
  pub table : ℕ
  pub size : ℕ
  pub head : ℕ

abbrev pub start : List ℕ → ℕ → ℕ → ℕ → Start
start ram table size head = record { ram = ram; table = table; size = size; head = head }

-- the path without end: the place of its descriptor n
abbrev pub place : Start → ℕ → ℕ
place s zero = s.head
place s (suc n) = (descriptor_at s.ram s.table (place s n)).next

-- its descriptor n
abbrev pub nth : Start → ℕ → Descriptor
nth s n = descriptor_at s.ram s.table (place s n)

-- its first n descriptors
abbrev pub path : Start → ℕ → List Descriptor
path s zero = []
path s (suc n) = path s n ++ nth s n ∷ []

-- whether a place is among those of the first n descriptors
abbrev pub is_among : Start → ℕ → ℕ → Bool
is_among s zero p = false
is_among s (suc n) p = is_among s n p || p == place s n

-- whether a list of descriptors has a writable one
abbrev pub has_writable : List Descriptor → Bool
has_writable [] = false
has_writable (d ∷ ds) = d.writable || has_writable ds

-- what is wrong with a descriptor that was not met before; `after` says whether a writable one came before it
unfoldable pub fault_of : List ℕ → ℕ → Bool → Descriptor → Option Why
fault_of ram size after d =
    if d.indirect then Some Indirect else
    if not (holds_range ram d.addr d.len) then Some RangeOutside else
    if after && not d.writable then Some OrderWrong else
    if d.goes_on && nat_le size d.next then Some NextRange else None

-- what is wrong at descriptor n of the path
unfoldable pub fault_at : Start → ℕ → Option Why
fault_at s n =
    if is_among s n (place s n) then Some Loop else fault_of s.ram s.size (has_writable (path s n)) (nth s n)

-- whether the path comes to its end at descriptor n: something is wrong there, or none is named after it
unfoldable pub ends_at : Start → ℕ → Bool
ends_at s n = is_some (fault_at s n) || not (nth s n).goes_on

-- the first of n numbers from k on at which a test holds, else k + n
abbrev pub first_from : (ℕ → Bool) → ℕ → ℕ → ℕ
first_from test k zero = k
first_from test k (suc n) = if test k then k else first_from test (k + 1) n

-- the number of the descriptor at which the path comes to its end. A table has at most 64, so this is at most 64
unfoldable pub end : Start → ℕ
end s = first_from (ends_at s) 0 64

abbrev pub range_of : Descriptor → Range
range_of d = record { addr = d.addr; len = d.len }

-- the ranges of the readable and of the writable descriptors of a path, in its order
abbrev pub readable_of : List Descriptor → List Range
readable_of ds = map range_of (filter (λ (d : Descriptor). not d.writable) ds)

abbrev pub writable_of : List Descriptor → List Range
writable_of ds = map range_of (filter (λ (d : Descriptor). d.writable) ds)

abbrev pub outcome : Option Why → ChainOf → Result ChainOf Why
outcome None c = Ok c
outcome (Some w) c = Err w

-- what the path from a head gives: its first fault, else the chain of all its descriptors
unfoldable pub walked : Start → Result ChainOf Why
walked s = outcome (fault_at s (end s)) (chain_of s.head (readable_of (path s (suc (end s)))) (writable_of (path s (suc (end s)))))
