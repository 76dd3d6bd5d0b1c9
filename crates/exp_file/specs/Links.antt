-- The links of an experiment file.
use Rattle.std.specs.Prelude.{◌==◌, ℕ, ◌&&◌, ◌||◌, ◌+◌, slice_get, nat_lt, List, length, Option, Some, None, Result, Ok, Err, Bool, false, codes, if◌then◌else◌}
use Rattle.std.specs.List.{list_any, count_by}
use Rattle.toml.specs.Data.{Data}
use Rattle.exp_file.specs.declared.exp_fault.ExpFault.{ExpFault}
use Rattle.exp_file.specs.declared.exp_why.ExpWhy.TheVariants.{NicTaken, NicRange}
use Rattle.exp_file.specs.declared.section.Section.TheVariants.{Link}
use Rattle.exp_file.specs.declared.guest_spec.GuestSpec.{GuestSpec}
use Rattle.exp_file.specs.declared.link_spec.LinkSpec.{LinkSpec}
use Rattle.exp_file.specs.declared.links.LinkFields.{LinkFields}
use Rattle.exp_file.specs.Keys.{◌>>=◌, Table, fault_at, number, number_or, known}
use Rattle.exp_file.specs.Tables.{element}
use Rattle.exp_file.specs.Disks.{guest_at, found}

-- how many nics the guest of a number has
abbrev pub nics_if : Option GuestSpec → ℕ
nics_if None = 0
nics_if (Some x) = x.nics

abbrev pub nics_of : List GuestSpec → ℕ → ℕ
nics_of guests g = nics_if (slice_get guests g)

-- whether an end of a link is at a nic of a guest
abbrev pub has_end : ℕ → ℕ → LinkSpec → Bool
has_end g nic l = (l.a == g && l.a_nic == nic) || (l.b == g && l.b_nic == nic)

-- how many ends of these links are at a nic of a guest
abbrev pub ends_at : ℕ → ℕ → List LinkSpec → ℕ
ends_at g nic links = count_by (λ l. l.a == g && l.a_nic == nic) links + count_by (λ l. l.b == g && l.b_nic == nic) links

abbrev pub is_used : List LinkSpec → ℕ → ℕ → Bool
is_used links g nic = list_any (has_end g nic) links

-- whether the nic is the one of the other end of the same link
abbrev pub is_same : Option (ℕ × ℕ) → ℕ → ℕ → Bool
is_same None g nic = false
is_same (Some e) g nic = e.0 == g && e.1 == nic

-- a nic that the guest has, and that no link uses
unfoldable pub free_nic : Table → List ℕ → ℕ → ℕ → Bool → Result ℕ ExpFault
free_nic t key nics nic taken = if nat_lt nic nics then (if taken then Err (fault_at t key NicTaken) else Ok nic) else Err (fault_at t key NicRange)

-- one end of a link: the number of its guest
unfoldable pub end_of : Table → List GuestSpec → List LinkSpec → Option (ℕ × ℕ) → List ℕ → List ℕ → Option ℕ → ℕ → Result ℕ ExpFault
end_of t guests done other key nic_key named nic = do
  g ← found t key named
  _ ← free_nic t nic_key (nics_of guests g) nic (is_used done g nic || is_same other g nic)
  Ok g

unfoldable pub link_fields : List GuestSpec → Table → Result LinkFields ExpFault
link_fields guests t = do
  _ ← known t
  a ← guest_at t guests (codes "a")
  a_nic ← number_or t (codes "a_nic") 0 3 0
  b ← guest_at t guests (codes "b")
  b_nic ← number_or t (codes "b_nic") 0 3 0
  bandwidth ← number t (codes "bandwidth") 1 1000000
  delay ← number t (codes "delay") 1 10000
  queue ← number t (codes "queue") 1 1000
  Ok (record { a = a; a_nic = a_nic; b = b; b_nic = b_nic; bandwidth = bandwidth; delay = delay; queue = queue })

unfoldable pub link_ends : List GuestSpec → List LinkSpec → Table → LinkFields → Result LinkSpec ExpFault
link_ends guests done t f = do
  a ← end_of t guests done None (codes "a") (codes "a_nic") f.a f.a_nic
  b ← end_of t guests done (Some (a, f.a_nic)) (codes "b") (codes "b_nic") f.b f.b_nic
  Ok (record { a = a; a_nic = f.a_nic; b = b; b_nic = f.b_nic; bandwidth = f.bandwidth; delay = f.delay; queue = f.queue })

unfoldable pub link_step : List GuestSpec → List LinkSpec → Data → Result LinkSpec ExpFault
link_step guests done d = do
  t ← element Link (length done) d
  f ← link_fields guests t
  link_ends guests done t f
