-- The stock of devices, a list for each kind, and whether there are devices enough for all guests.
use Rattle.std.specs.Prelude.{◌≡◌, ℕ, ◌<◌, ◌≤◌, List, [], All, map, length, slice_index_or}
use Rattle.std.specs.List.{sum}
use Rattle.std.specs.declared.vec.Vec.{Vec}
use Rattle.dev_face.specs.States.{DevState, Blank}
use Rattle.dev_face.specs.declared.kind.Kind.{Kind}
use Rattle.dev_face.specs.declared.kind.Kind.TheVariants as kind
use Rattle.exp_file.specs.declared.experiment.Experiment.{Experiment}
use Rattle.bench_build.specs.declared.build_fault.BuildFault.{BuildFault}
use Rattle.bench_build.specs.declared.build_fault.BuildFault.TheVariants.{NoDevice, NoMemory}

-- how many devices of a kind an experiment needs: a guest has one Clint and one Uart, and its disks and its nics
abbrev pub needs : Experiment → Kind → ℕ
needs e kind.Clint = length e.guests.items
needs e kind.Uart = length e.guests.items
needs e kind.Blk = length e.disks.items
needs e kind.Net = sum (map (λ g. g.nics) e.guests.items)

-- the order of the kinds: how many come before a kind
abbrev pub rank : Kind → ℕ
rank kind.Clint = 0
rank kind.Uart = 1
rank kind.Blk = 2
rank kind.Net = 3

-- of lists in the order of the kinds, that of a kind
abbrev pub list_of : {A : Type 0} → List (List A) → Kind → List A
list_of lists k = slice_index_or lists (rank k) []

-- how many devices of each kind there are
abbrev pub counts : {A : Type 0} → List (List A) → Kind → ℕ
counts lists k = length (list_of lists k)

-- the devices in each list
abbrev pub items_of : {A Z : Type 0} → List (Vec A Z) → List (List A)
items_of lists = map (λ v. v.items) lists

-- the list of each kind holds blank devices of its kind
abbrev pub IsStock : {A : Type 0} → (A → DevState) → List (List A) → Type 0
IsStock state lists = (k : Kind) → All (λ s. s ≡ Blank k) (map state (list_of lists k))

-- there are enough of each kind
pub record Suffices (e : Experiment) (had : Kind → ℕ) : Type 0 where
  pub of : (k : Kind) → needs e k ≤ had k

-- this is the first kind of which there are too few, with what is wanted and had of it
pub record IsFirstShort (e : Experiment) (had : Kind → ℕ) (k : Kind) (w h : ℕ) : Type 0 where
  pub wanted : w ≡ needs e k
  pub had_is : h ≡ had k
  pub short : h < w
  pub before : (j : Kind) → rank j < rank k → needs e j ≤ had j

abbrev pub IsShort : Experiment → (Kind → ℕ) → BuildFault → Type 0
IsShort e had (NoDevice k w h) = IsFirstShort e had k w h
IsShort e had _ = ⊥

-- why a bench of which all images and disks were taken is not built: a kind of which there are too few, or no memory
abbrev pub IsUnbuilt : Experiment → (Kind → ℕ) → BuildFault → Type 0
IsUnbuilt e had NoMemory = Unit {0}
IsUnbuilt e had f = IsShort e had f
