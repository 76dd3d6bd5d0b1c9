-- Well formed experiments.
use Rattle.std.specs.Prelude.{◌≡◌, ℕ, ◌<◌, ◌≤◌, ◌%◌, ◌==◌, ◌&&◌, List, true, false, IfSome, All, length, map}
use Rattle.std.specs.List.{IsDistinct, list_all}
use Rattle.std.specs.Str.{bytes_eq}
use Rattle.exp_file.specs.declared.slot_spec.SlotSpec.{SlotSpec}
use Rattle.exp_file.specs.declared.guest_spec.GuestSpec.{GuestSpec}
use Rattle.exp_file.specs.declared.disk_spec.DiskSpec.{DiskSpec}
use Rattle.exp_file.specs.declared.link_spec.LinkSpec.{LinkSpec}
use Rattle.exp_file.specs.declared.links.LinkFields.{LinkFields}
use Rattle.exp_file.specs.declared.experiment.Experiment.{Experiment}
use Rattle.exp_file.specs.Keys.{is_name_byte, is_not_zero}
use Rattle.exp_file.specs.Disks.{disks_of}
use Rattle.exp_file.specs.Links.{nics_of, is_used, ends_at}

pub record IsSlot (s : SlotSpec) : Type 0 where
  pub capacity_low : 1 ≤ s.capacity
  pub capacity_high : s.capacity ≤ 1000000

-- a guest among so many slots
pub record IsGuest (slots : ℕ) (g : GuestSpec) : Type 0 where
  pub name_low : 1 ≤ length g.name
  pub name_high : length g.name ≤ 32
  pub name_bytes : list_all is_name_byte g.name ≡ true
  pub image_low : 1 ≤ length g.image
  pub image_high : length g.image ≤ 255
  pub image_bytes : list_all is_not_zero g.image ≡ true
  pub ram_low : 4096 ≤ g.ram
  pub ram_high : g.ram ≤ 16777216
  pub ram_pages : g.ram % 4096 ≡ 0
  pub rate_low : 1 ≤ g.rate
  pub rate_high : g.rate ≤ 100000
  pub nics : g.nics ≤ 4
  pub slot : IfSome g.slot (λ s. s < slots)

-- the name of a disk's image
pub record IsImage (image : List ℕ) : Type 0 where
  pub low : 1 ≤ length image
  pub high : length image ≤ 255
  pub bytes : list_all is_not_zero image ≡ true

-- a disk among so many guests
pub record IsDisk (guests : ℕ) (d : DiskSpec) : Type 0 where
  pub guest : d.guest < guests
  pub sectors_low : 1 ≤ d.sectors
  pub sectors_high : d.sectors ≤ 32768
  pub image : IfSome d.image IsImage
  pub base_low : 1 ≤ d.base
  pub base_high : d.base ≤ 1000000
  pub per_sector : d.per_sector ≤ 1000000
  pub seek_num : d.seek_num ≤ 1000000
  pub seek_den_low : 1 ≤ d.seek_den
  pub seek_den_high : d.seek_den ≤ 1000000

-- a link among these guests
pub record IsLink (guests : List GuestSpec) (l : LinkSpec) : Type 0 where
  pub a : l.a < length guests
  pub a_nic : l.a_nic < nics_of guests l.a
  pub b : l.b < length guests
  pub b_nic : l.b_nic < nics_of guests l.b
  pub bandwidth_low : 1 ≤ l.bandwidth
  pub bandwidth_high : l.bandwidth ≤ 1000000
  pub delay_low : 1 ≤ l.delay
  pub delay_high : l.delay ≤ 10000
  pub queue_low : 1 ≤ l.queue
  pub queue_high : l.queue ≤ 1000

-- the fields of a link among so many guests
pub record AreFields (guests : ℕ) (f : LinkFields) : Type 0 where
  pub a : IfSome f.a (λ g. g < guests)
  pub b : IfSome f.b (λ g. g < guests)
  pub bandwidth_low : 1 ≤ f.bandwidth
  pub bandwidth_high : f.bandwidth ≤ 1000000
  pub delay_low : 1 ≤ f.delay
  pub delay_high : f.delay ≤ 10000
  pub queue_low : 1 ≤ f.queue
  pub queue_high : f.queue ≤ 1000

-- a link of two nics that these links do not use
pub record IsFree (links : List LinkSpec) (l : LinkSpec) : Type 0 where
  pub a : is_used links l.a l.a_nic ≡ false
  pub b : is_used links l.b l.b_nic ≡ false
  pub apart : (l.a == l.b && l.a_nic == l.b_nic) ≡ false

-- an experiment that keeps all ranges, and in which every name and every end is right
pub record IsWellFormed (e : Experiment) : Type 0 where
  pub version : e.version ≡ 1
  pub factor_low : 1 ≤ e.factor
  pub factor_high : e.factor ≤ 1000
  pub slots_low : 1 ≤ length e.slots.items
  pub slots_high : length e.slots.items ≤ 32
  pub guests_low : 1 ≤ length e.guests.items
  pub guests_high : length e.guests.items ≤ 32
  pub disks_high : length e.disks.items ≤ 64
  pub links_high : length e.links.items ≤ 64
  pub slots : All IsSlot e.slots.items
  pub guests : All (IsGuest (length e.slots.items)) e.guests.items
  pub disks : All (IsDisk (length e.guests.items)) e.disks.items
  pub links : All (IsLink e.guests.items) e.links.items
  pub names : IsDistinct bytes_eq (map (λ g. g.name) e.guests.items)
  pub two_disks : (g : ℕ) → disks_of g e.disks.items ≤ 2
  pub one_link : (g nic : ℕ) → ends_at g nic e.links.items ≤ 1
