-- The slots and the guests of an experiment file.
use Rattle.std.specs.Prelude.{ℕ, ◌-◌, List, [], ◌∷◌, ◌++◌, length, Option, Some, None, Result, Ok, Err, Bool, codes, if◌then◌else◌}
use Rattle.std.specs.List.{list_any}
use Rattle.std.specs.Str.{bytes_eq}
use Rattle.toml.specs.Data.{Data, Members, Items, no_items, item, as_table}
use Rattle.exp_file.specs.declared.exp_fault.ExpFault.{ExpFault}
use Rattle.exp_file.specs.declared.exp_why.ExpWhy.TheVariants.{WrongKind, Twice}
use Rattle.exp_file.specs.declared.section.Section.{Section}
use Rattle.exp_file.specs.declared.section.Section.TheVariants.{Slot, Guest}
use Rattle.exp_file.specs.declared.form.Form.TheVariants.{GuestName, ImageName}
use Rattle.exp_file.specs.declared.slot_spec.SlotSpec.{SlotSpec}
use Rattle.exp_file.specs.declared.guest_spec.GuestSpec.{GuestSpec}
use Rattle.exp_file.specs.Keys.{◌>>=◌, Table, fault_at, number, number_or, maybe_number, multiple, text, known, format}

-- the table that an item of an array is
abbrev pub table_or : Section → ℕ → Option Members → Result Table ExpFault
table_or s i None = Err (record { why = WrongKind; section = s; index = i; key = [] })
table_or s i (Some ms) = Ok (record { section = s; index = i; members = ms })

unfoldable pub element : Section → ℕ → Data → Result Table ExpFault
element s i d = table_or s i (as_table d)

-- the tables of an array after those that were read, in order
abbrev pub each : {A : Type 0} → (List A → Data → Result A ExpFault) → List A → Items → Result (List A) ExpFault
each step done no_items = Ok done
each step done (item d ds) = step done d >>= λ x. each step (done ++ x ∷ []) ds

unfoldable pub slot_of : Table → Result SlotSpec ExpFault
slot_of t = do
  _ ← known t
  capacity ← number t (codes "capacity") 1 1000000
  Ok (record { capacity = capacity })

unfoldable pub slot_step : List SlotSpec → Data → Result SlotSpec ExpFault
slot_step done d = element Slot (length done) d >>= slot_of

unfoldable pub guest_of : ℕ → Table → Result GuestSpec ExpFault
guest_of slots t = do
  _ ← known t
  name ← text t (codes "name") GuestName
  image ← text t (codes "image") ImageName
  kind ← format t
  ram ← number_or t (codes "ram") 4096 16777216 1048576
  _ ← multiple t (codes "ram") ram 4096
  rate ← number t (codes "rate") 1 100000
  nics ← number_or t (codes "nics") 0 4 0
  slot ← maybe_number t (codes "slot") 0 (slots - 1)
  Ok (record { name = name; image = image; format = kind; ram = ram; rate = rate; nics = nics; slot = slot })

-- whether one of these guests has the name
abbrev pub is_named : List ℕ → List GuestSpec → Bool
is_named name guests = list_any (λ g. bytes_eq name g.name) guests

-- a guest whose name no earlier one has
unfoldable pub once : List GuestSpec → Table → GuestSpec → Result GuestSpec ExpFault
once done t g = if is_named g.name done then Err (fault_at t (codes "name") Twice) else Ok g

unfoldable pub guest_step : ℕ → List GuestSpec → Data → Result GuestSpec ExpFault
guest_step slots done d = do
  t ← element Guest (length done) d
  g ← guest_of slots t
  once done t g
