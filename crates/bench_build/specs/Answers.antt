-- What an image and the content of a disk are answered.
use Rattle.std.specs.Prelude.{◌≡◌, ℕ, ◌*◌, ◌<◌, ◌≤◌, List, length, Result, Ok, Err}
use Rattle.exp_file.specs.declared.guest_spec.GuestSpec.{GuestSpec}
use Rattle.exp_file.specs.declared.disk_spec.DiskSpec.{DiskSpec}
use Rattle.bench_build.specs.Images.{image}
use Rattle.bench_build.specs.declared.loaded.Loaded.{Loaded}
use Rattle.bench_build.specs.declared.image_fault.ImageFault.{ImageFault}
use Rattle.bench_build.specs.declared.build_fault.BuildFault.{BuildFault}
use Rattle.bench_build.specs.declared.build_fault.BuildFault.TheVariants.{Image, DiskSize, NoDevice, NoMemory}

-- the image of a guest is taken: it gives RAM and an entry
pub record IsTaken (g : GuestSpec) (b : List ℕ) : Type 0 where
  pub loaded : Loaded
  pub is : image g.format g.ram b ≡ Ok loaded

-- the first fault of the image of a guest
abbrev pub IsFault : GuestSpec → List ℕ → ImageFault → Type 0
IsFault g b fault = image g.format g.ram b ≡ Err fault

-- an image is taken where it has no fault, and else it is refused with its guest's number and its first fault
abbrev pub ImageAnswers : ℕ → GuestSpec → List ℕ → Result (Unit {0}) BuildFault → Type 0
ImageAnswers i g b (Ok _) = IsTaken g b
ImageAnswers i g b (Err (Image j fault)) = (j ≡ i) × IsFault g b fault
ImageAnswers i g b (Err (DiskSize disk len room)) = ⊥
ImageAnswers i g b (Err (NoDevice kind wanted had)) = ⊥
ImageAnswers i g b (Err NoMemory) = Unit {0}

-- the same of the RAM that is made for it
abbrev pub LoadedAnswers : ℕ → Result Loaded ImageFault → Result Loaded BuildFault → Type 0
LoadedAnswers i is (Ok l) = is ≡ Ok l
LoadedAnswers i is (Err (Image j fault)) = (j ≡ i) × (is ≡ Err fault)
LoadedAnswers i is (Err (DiskSize disk len room)) = ⊥
LoadedAnswers i is (Err (NoDevice kind wanted had)) = ⊥
LoadedAnswers i is (Err NoMemory) = Unit {0}

-- and of the RAM that it is put into
abbrev pub PutAnswers : Result Loaded ImageFault → List ℕ → Result ℕ ImageFault → Type 0
PutAnswers is ram (Ok entry) = is ≡ Ok (record { ram = ram; entry = entry })
PutAnswers is ram (Err fault) = is ≡ Err fault

-- what a disk holds at first is no longer than the disk, whose sectors have 512 bytes each
abbrev pub room_of : DiskSpec → ℕ
room_of d = 512 * d.sectors

abbrev pub Fills : DiskSpec → List ℕ → Type 0
Fills d b = length b ≤ room_of d

-- it is taken where it is no longer, and else it is refused with its disk's number, its length and the disk's
abbrev pub DiskAnswers : ℕ → DiskSpec → List ℕ → Result (Unit {0}) BuildFault → Type 0
DiskAnswers j d b (Ok _) = Fills d b
DiskAnswers j d b (Err (Image guest fault)) = ⊥
DiskAnswers j d b (Err (DiskSize disk len room)) = (disk ≡ j) × (len ≡ length b) × (room ≡ room_of d) × (room < len)
DiskAnswers j d b (Err (NoDevice kind wanted had)) = ⊥
DiskAnswers j d b (Err NoMemory) = Unit {0}

-- the same of the bytes that are kept
abbrev pub ContentAnswers : ℕ → DiskSpec → List ℕ → Result (List ℕ) BuildFault → Type 0
ContentAnswers j d b (Ok kept) = (kept ≡ b) × Fills d b
ContentAnswers j d b (Err fault) = DiskAnswers j d b (Err fault)
