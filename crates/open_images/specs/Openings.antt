-- What a bench was opened with, and why it was not.
use Rattle.std.specs.Prelude.{◌≡◌, ℕ, ◌<◌, List, [], length, Option, Some}
use Rattle.std.specs.List.{AllZip}
use Rattle.dev_face.specs.declared.kind.Kind.{Kind}
use Rattle.exp_file.specs.declared.disk_spec.DiskSpec.{DiskSpec}
use Rattle.exp_file.specs.declared.experiment.Experiment.{Experiment}
use Rattle.bench_build.specs.Answers.{IsFault, IsTaken, room_of}
use Rattle.bench_build.specs.Inputs.{Inputs}
use Rattle.bench_build.specs.Stocks.{Suffices, IsShort}
use Rattle.bench_build.specs.declared.build_fault.BuildFault.TheVariants as build
use Rattle.open_images.specs.declared.file_id.FileId.TheVariants.{Image, Disk}
use Rattle.open_images.specs.declared.open_fault.OpenFault.{OpenFault}
use Rattle.open_images.specs.declared.open_fault.OpenFault.TheVariants.{TooLong, ReadFault, Build, Memory}
use Rattle.open_images.specs.Reads.{FilesSeen, HasRead, IsTooLong, FailedAt, IsContent, AreRead, StopsAtGuest, StopsAtDisk, image_limit, disk_limit}

-- images alone, of guests without disks
abbrev pub images_alone : List (List ℕ) → Inputs
images_alone images = record { images = images; disks = [] }

-- these are images of its guests, which are taken, and it has no disks
pub record AreImages (e : Experiment) (images : List (List ℕ)) : Type 0 where
  pub taken : AllZip IsTaken e.guests.items images
  pub no_disks : e.disks.items ≡ []

-- inputs like these were taken, and this holds of them
pub record Loaded (Like : Inputs → Type 0) (P : Inputs → Type 0) : Type 0 where
  pub inputs : Inputs
  pub loaded : Like inputs
  pub holds : P inputs

-- they were taken, each guest has its devices of so many, and this holds of them
pub record Built (Like : Inputs → Type 0) (had : Kind → ℕ) (e : Experiment) (P : Inputs → Type 0) : Type 0 where
  pub inputs : Inputs
  pub loaded : Like inputs
  pub enough : Suffices e had
  pub holds : P inputs

-- why a bench is not built though inputs like these were taken: there are too few devices of a kind, or no memory
abbrev pub Unbuilt : (Inputs → Type 0) → (Kind → ℕ) → Experiment → OpenFault → Type 0
Unbuilt Like had e (Build (build.NoDevice kind wanted n)) = Loaded Like (λ i. IsShort e had (build.NoDevice kind wanted n))
Unbuilt Like had e Memory = Unit {0}
Unbuilt Like had e _ = ⊥

-- what a disk holds at first was read, and is longer than the disk
pub record Overfills (held : List ℕ → Option (List ℕ)) (len room : ℕ) (d : DiskSpec) : Type 0 where
  pub bytes : List ℕ
  pub read : IsContent held d.image bytes
  pub len_is : len ≡ length bytes
  pub room_is : room ≡ room_of d
  pub over : room < len

-- why it is not opened of files: the first image that was not taken is too long, or its read failed, or it is refused; where all images were taken, so is the
-- first disk; or it was not built
abbrev pub Unopened : FilesSeen → FilesSeen → (Kind → ℕ) → Experiment → OpenFault → Type 0
Unopened old new had e (TooLong (Image i)) = StopsAtGuest old.held e i (λ g. IsTooLong (old.held g.image) image_limit)
Unopened old new had e (ReadFault (Image i)) = StopsAtGuest old.held e i (λ g. FailedAt old new g.image)
Unopened old new had e (Build (build.Image i fault)) = StopsAtGuest old.held e i (λ g. HasRead (old.held g.image) image_limit (λ b. IsFault g b fault))
Unopened old new had e (TooLong (Disk j)) = StopsAtDisk old.held e j (λ d. (name : List ℕ) × (d.image ≡ Some name) × IsTooLong (old.held name) disk_limit)
Unopened old new had e (ReadFault (Disk j)) = StopsAtDisk old.held e j (λ d. (name : List ℕ) × (d.image ≡ Some name) × FailedAt old new name)
Unopened old new had e (Build (build.DiskSize j len room)) = StopsAtDisk old.held e j (Overfills old.held len room)
Unopened old new had e (Build (build.NoDevice kind wanted n)) = Loaded (AreRead old.held e) (λ i. IsShort e had (build.NoDevice kind wanted n))
Unopened old new had e Memory = Unit {0}
Unopened old new had e _ = ⊥
