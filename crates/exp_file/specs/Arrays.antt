-- The arrays of a file's tables.
use Rattle.std.specs.Prelude.{◌≡◌, ◌≤◌, length, Result, Ok, Err, codes}
use Rattle.toml.specs.Data.{Items}
use Rattle.toml.specs.View.{items_view}
use Rattle.exp_file.specs.declared.exp_fault.ExpErr.{ExpErr}
use Rattle.exp_file.specs.declared.exp_fault.ExpFault.{ExpFault}
use Rattle.exp_file.specs.declared.exp_why.ExpWhy.TheVariants.{NoSlot, NoGuest}
use Rattle.exp_file.specs.declared.arrays.Arrays.{Arrays}
use Rattle.exp_file.specs.Keys.{◌>>=◌, Fails, Table, array, some_array}

-- what stands in each array
pub record TopItems : Type 0 where
  pub slots : Items
  pub guests : Items
  pub disks : Items
  pub links : Items

-- the arrays of the file's own table: 1 to 32 slots, 1 to 32 guests, at most 64 disks and at most 64 links
unfoldable pub arrays_of : Table → Result TopItems ExpFault
arrays_of t = do
  slots ← some_array t (codes "slot") 32 NoSlot
  guests ← some_array t (codes "guest") 32 NoGuest
  disks ← array t (codes "disk") 64
  links ← array t (codes "link") 64
  Ok (record { slots = slots; guests = guests; disks = disks; links = links })

abbrev pub items_of : Arrays → TopItems
items_of a = record { slots = items_view a.slots.now; guests = items_view a.guests.now; disks = items_view a.disks.now; links = items_view a.links.now }

abbrev pub ArraysGive : Result Arrays ExpErr → Result TopItems ExpFault → Type 0
ArraysGive (Ok a) read = read ≡ Ok (items_of a)
ArraysGive (Err e) read = Fails e read

pub record AreSized (a : Arrays) : Type 0 where
  pub slots_low : 1 ≤ length a.slots.now
  pub slots_high : length a.slots.now ≤ 32
  pub guests_low : 1 ≤ length a.guests.now
  pub guests_high : length a.guests.now ≤ 32
  pub disks_high : length a.disks.now ≤ 64
  pub links_high : length a.links.now ≤ 64
