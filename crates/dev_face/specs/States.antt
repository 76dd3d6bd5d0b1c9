-- What contracts see of a device: plain values, by kind.
use Rattle.std.specs.Prelude.{◌≡◌, ℕ, ◌-◌, ◌^◌, Bool, true, false, IsTrue, List, [], length, take}
use Rattle.dev_face.specs.declared.kind.Kind.{Kind}
use Rattle.dev_face.specs.declared.kind.Kind.TheVariants as kind
use Rattle.dev_face.specs.declared.config.DevConfig.{DevConfig}
use Rattle.dev_face.specs.declared.config.DevConfig.TheVariants as config
use Rattle.dev_face.specs.BlkStates.{BlkState, DiskInLimits, opening_disk, BlkFits}
use Rattle.dev_face.specs.NetStates.{NetState, NicInLimits, opening_nic}

-- a Clint: the next tick that it begins, its software interrupt bit, and the tick that the timer waits for
pub record ClintState : Type 0 where
  pub coming : ℕ
  pub msip : Bool
  pub mtimecmp : ℕ

-- a Uart: the next tick that it begins
pub record UartState : Type 0 where
  pub coming : ℕ

-- a device that is set up, by kind; or a blank one, of which only the kind is there
pub data DevState : Type 0 where
  Blank : Kind → DevState
  ClintAt : ClintState → DevState
  UartAt : UartState → DevState
  BlkAt : BlkState → DevState
  NetAt : NetState → DevState

abbrev pub kind_of : DevState → Kind
kind_of (Blank k) = k
kind_of (ClintAt s) = kind.Clint
kind_of (UartAt s) = kind.Uart
kind_of (BlkAt s) = kind.Blk
kind_of (NetAt s) = kind.Net

-- the device was set up
abbrev pub is_set_up : DevState → Bool
is_set_up (Blank k) = false
is_set_up (ClintAt s) = true
is_set_up (UartAt s) = true
is_set_up (BlkAt s) = true
is_set_up (NetAt s) = true

abbrev pub IsSetUp : DevState → Type 0
IsSetUp s = IsTrue (is_set_up s)

-- the next tick that the device begins
abbrev pub coming_of : DevState → ℕ
coming_of (Blank k) = 0
coming_of (ClintAt s) = s.coming
coming_of (UartAt s) = s.coming
coming_of (BlkAt s) = s.coming
coming_of (NetAt s) = s.coming

-- the same device, with another next tick to begin
abbrev pub at_coming : ℕ → DevState → DevState
at_coming t (Blank k) = Blank k
at_coming t (ClintAt s) = ClintAt (record s { coming = t })
at_coming t (UartAt s) = UartAt (record { coming = t })
at_coming t (BlkAt s) = BlkAt (record s { coming = t })
at_coming t (NetAt s) = NetAt (record s { coming = t })

-- what a configuration is for
abbrev pub config_kind : DevConfig → Kind
config_kind config.Clint = kind.Clint
config_kind config.Uart = kind.Uart
config_kind (config.Blk sectors params content disk slot) = kind.Blk
config_kind (config.Net guest nic slot) = kind.Net

-- what a configuration may ask for: a Clint and a Uart ask for nothing, a disk and a nic within their limits
abbrev pub IsInLimits : DevConfig → Type 0
IsInLimits config.Clint = Unit {0}
IsInLimits config.Uart = Unit {0}
IsInLimits (config.Blk sectors params content disk slot) = DiskInLimits sectors params content disk slot
IsInLimits (config.Net guest nic slot) = NicInLimits guest nic slot

-- the device is blank, and the configuration is of its kind
abbrev pub IsBlankFor : DevConfig → DevState → Type 0
IsBlankFor c s = s ≡ Blank (config_kind c)

-- the device after `set_up`: a Clint at reset waits for the last tick that it can name, and its software bit is clear
abbrev pub opening : DevConfig → DevState
opening config.Clint = ClintAt (record { coming = 0; msip = false; mtimecmp = 2 ^ 64 - 1 })
opening config.Uart = UartAt (record { coming = 0 })
opening (config.Blk sectors params content disk slot) = BlkAt (opening_disk sectors params content disk slot)
opening (config.Net guest nic slot) = NetAt (opening_nic guest nic slot)

-- what the device has in flight lies in a RAM of n bytes: of these kinds only a disk has something in flight
abbrev pub FliesIn : ℕ → DevState → Type 0
FliesIn n (Blank k) = Unit {0}
FliesIn n (ClintAt s) = Unit {0}
FliesIn n (UartAt s) = Unit {0}
FliesIn n (BlkAt s) = BlkFits n s.active
FliesIn n (NetAt s) = Unit {0}

-- the device is set up, this tick is the next that it begins, and what it has in flight lies in a RAM of n bytes
pub record IsComing (now n : ℕ) (s : DevState) : Type 0 where
  pub set_up : IsSetUp s
  pub next : coming_of s ≡ now
  pub flies : FliesIn n s

-- whether frames may arrive at a device of a kind
abbrev pub takes_frames : Kind → Bool
takes_frames kind.Clint = false
takes_frames kind.Uart = false
takes_frames kind.Blk = false
takes_frames kind.Net = true

-- no frames arrive where none may
abbrev pub MayArrive : DevState → List (List ℕ) → Type 0
MayArrive s frames = takes_frames (kind_of s) ≡ false → frames ≡ []

-- a list to which more was put at its end, if anything
abbrev pub StaysInFront : {A : Type 0} → List A → List A → Type 0
StaysInFront old new = take (length old) new ≡ old
