-- What the items of an array keep that were read so far.
use Rattle.std.specs.Prelude.{ℕ, ◌<◌, ◌≤◌, List, All, length, map}
use Rattle.std.specs.List.{IsDistinct}
use Rattle.std.specs.Str.{bytes_eq}
use Rattle.exp_file.specs.declared.guest_spec.GuestSpec.{GuestSpec}
use Rattle.exp_file.specs.declared.disk_spec.DiskSpec.{DiskSpec}
use Rattle.exp_file.specs.declared.link_spec.LinkSpec.{LinkSpec}
use Rattle.exp_file.specs.Disks.{disks_of}
use Rattle.exp_file.specs.Links.{ends_at}
use Rattle.exp_file.specs.WellFormed.{IsGuest, IsDisk, IsLink}

-- guests among so many slots
pub record AreGuests (slots : ℕ) (gs : List GuestSpec) : Type 0 where
  pub some : 0 < slots
  pub well : All (IsGuest slots) gs
  pub names : IsDistinct bytes_eq (map (λ g. g.name) gs)

-- disks of these guests
pub record AreDisks (guests : List GuestSpec) (ds : List DiskSpec) : Type 0 where
  pub few : length guests ≤ 32
  pub well : All (IsDisk (length guests)) ds
  pub two : (g : ℕ) → disks_of g ds ≤ 2

-- links among these guests
pub record AreLinks (guests : List GuestSpec) (ls : List LinkSpec) : Type 0 where
  pub few : length guests ≤ 32
  pub well : All (IsLink guests) ls
  pub one : (g nic : ℕ) → ends_at g nic ls ≤ 1
