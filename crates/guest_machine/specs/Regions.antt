-- The map of addresses below RAM, which begins at `ram_base`.
use Rattle.std.specs.Prelude.{◌≡◌, ℕ, ◌+◌, ◌-◌, ◌/◌, ◌%◌, ◌<◌, nat_le, nat_lt, ◌&&◌, if◌then◌else◌, Bool, List, [], ◌∷◌}
use Rattle.tb_base.specs.declared.width.Width.{Width}
use Rattle.tb_base.specs.Widths.{width_bytes}
use Rattle.guest_machine.specs.declared.access.Access.{Access}
use Rattle.guest_machine.specs.declared.access.Access.TheVariants as access

-- what stands in a region: the power register, the CLINT, the register of the virtio lines, the UART, and the virtio slots
pub data Part : Type 0 where
  Power : Part
  Clint : Part
  Lines : Part
  Uart : Part
  Slots : Part

pub record Region : Type 0 where
  pub base : ℕ
  pub size : ℕ
  pub part : Part

-- all regions; the six virtio slots have 0x1000 bytes each
abbrev pub regions : List Region
regions =
    record { base = 0x100000; size = 0x1000; part = Power }
    ∷ record { base = 0x2000000; size = 0x10000; part = Clint }
    ∷ record { base = 0x3000000; size = 0x1000; part = Lines }
    ∷ record { base = 0x10000000; size = 0x1000; part = Uart }
    ∷ record { base = 0x10001000; size = 0x6000; part = Slots }
    ∷ []

-- whether an address lies in a region
abbrev pub is_in : Region → ℕ → Bool
is_in r addr = nat_le r.base addr && nat_lt addr (r.base + r.size)

-- virtio slot i of a machine with so many devices, at an offset inside it: device 2 + i is in it, if there is one
abbrev pub slot_access : ℕ → ℕ → ℕ → Access
slot_access count i off = if nat_lt (2 + i) count then access.Device (2 + i) off else access.EmptySlot off

-- what is accessed at an offset inside a region: the CLINT is the machine's device 0, and the UART its device 1
abbrev pub part_access : ℕ → Part → ℕ → Access
part_access count Power off = access.Power off
part_access count Clint off = access.Device 0 off
part_access count Lines off = access.Lines off
part_access count Uart off = access.Device 1 off
part_access count Slots off = slot_access count (off / 0x1000) (off % 0x1000)

-- in the region that holds the address
abbrev pub access_in : List Region → ℕ → ℕ → Access
access_in [] count addr = access.Nowhere
access_in (r ∷ rs) count addr = if is_in r addr then part_access count r.part (addr - r.base) else access_in rs count addr

-- what is accessed at an address below RAM, in a machine with so many devices
abbrev pub access_of : ℕ → ℕ → Access
access_of count addr = access_in regions count addr

-- a device's offset is a multiple of the width, and there is such a device
abbrev pub IsAlignedAt : Width → ℕ → Access → Type 0
IsAlignedAt width count (access.Device i off) = (off % width_bytes width ≡ 0) × (i < count)
IsAlignedAt width count _ = Unit {0}
