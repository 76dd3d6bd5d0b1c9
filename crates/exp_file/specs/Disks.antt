-- The disks of an experiment file, and the guests that its names stand for.
use Rattle.std.specs.Prelude.{◌==◌, ℕ, nat_lt, List, length, Option, Some, None, Result, Ok, Err, codes, if◌then◌else◌}
use Rattle.std.specs.List.{count_by, position}
use Rattle.std.specs.Str.{bytes_eq}
use Rattle.toml.specs.Data.{Data}
use Rattle.exp_file.specs.declared.exp_fault.ExpFault.{ExpFault}
use Rattle.exp_file.specs.declared.exp_why.ExpWhy.TheVariants.{NoSuchGuest, Range}
use Rattle.exp_file.specs.declared.section.Section.TheVariants.{Disk}
use Rattle.exp_file.specs.declared.form.Form.TheVariants.{AnyText, ImageName}
use Rattle.exp_file.specs.declared.guest_spec.GuestSpec.{GuestSpec}
use Rattle.exp_file.specs.declared.disk_spec.DiskSpec.{DiskSpec}
use Rattle.exp_file.specs.Keys.{◌>>=◌, Table, fault_at, number, number_or, text, maybe_text, known}
use Rattle.exp_file.specs.Tables.{element}

-- the number of the guest that has a name
abbrev pub guest_named : List GuestSpec → List ℕ → Option ℕ
guest_named guests name = position (λ g. bytes_eq name g.name) guests

-- the guest that the text at a key names, if there is one
unfoldable pub guest_at : Table → List GuestSpec → List ℕ → Result (Option ℕ) ExpFault
guest_at t guests key = do
  name ← text t key AnyText
  Ok (guest_named guests name)

unfoldable pub found : Table → List ℕ → Option ℕ → Result ℕ ExpFault
found t key None = Err (fault_at t key NoSuchGuest)
found t key (Some g) = Ok g

-- how many of these disks a guest has
abbrev pub disks_of : ℕ → List DiskSpec → ℕ
disks_of g disks = count_by (λ d. d.guest == g) disks

-- a guest that has fewer than two disks so far
unfoldable pub with_room : List DiskSpec → Table → ℕ → Result ℕ ExpFault
with_room done t g = if nat_lt (disks_of g done) 2 then Ok g else Err (fault_at t (codes "guest") Range)

unfoldable pub disk_of : List GuestSpec → List DiskSpec → Table → Result DiskSpec ExpFault
disk_of guests done t = do
  _ ← known t
  named ← guest_at t guests (codes "guest")
  sectors ← number t (codes "sectors") 1 32768
  image ← maybe_text t (codes "image") ImageName
  base ← number t (codes "base") 1 1000000
  per_sector ← number_or t (codes "per_sector") 0 1000000 0
  seek_num ← number_or t (codes "seek_num") 0 1000000 0
  seek_den ← number_or t (codes "seek_den") 1 1000000 1
  g ← found t (codes "guest") named
  guest ← with_room done t g
  Ok (record { guest = guest; sectors = sectors; image = image; base = base; per_sector = per_sector; seek_num = seek_num; seek_den = seek_den })

unfoldable pub disk_step : List GuestSpec → List DiskSpec → Data → Result DiskSpec ExpFault
disk_step guests done d = element Disk (length done) d >>= disk_of guests done
