-- What was read of files, and where reading stopped.
use Rattle.std.specs.Prelude.{◌≡◌, ℕ, ◌<◌, ◌≤◌, List, [], length, take, Option, Some, None, IfSome, slice_get}
use Rattle.std.specs.List.{AllZip}
use Rattle.tb_io.specs.Causes.{Rose}
use Rattle.exp_file.specs.declared.experiment.Experiment.{Experiment}
use Rattle.exp_file.specs.declared.disk_spec.DiskSpec.{DiskSpec}
use Rattle.exp_file.specs.declared.guest_spec.GuestSpec.{GuestSpec}
use Rattle.bench_build.specs.Answers.{IsTaken, Fills}
use Rattle.bench_build.specs.Inputs.{Inputs}
use Rattle.tb_io.specs.declared.files.Files.{Ghosts as FilesWords}

-- what each name holds, where that is told, the count of faults, and the name whose read failed last
pub record FilesSeen : Type 0 where
  pub held : List ℕ → Option (List ℕ)
  pub faults : ℕ
  pub fault_name : List ℕ

abbrev pub files_seen : {F : Type 0} → FilesWords F → F → FilesSeen
files_seen G files = record { held = G.held files; faults = G.faults files; fault_name = G.fault_name files }

-- the bytes that an image may have, and what a disk holds at first
abbrev pub image_limit : ℕ
image_limit = 33554432

abbrev pub disk_limit : ℕ
disk_limit = 16777216

-- the bytes that were read of a file within a limit: the told ones, where they are told
pub record IsRead (told : Option (List ℕ)) (limit : ℕ) (b : List ℕ) : Type 0 where
  pub held : IfSome told (λ t. b ≡ t)
  pub fits : length b ≤ limit

-- a file was read, and this holds of its bytes
pub record HasRead (told : Option (List ℕ)) (limit : ℕ) (P : List ℕ → Type 0) : Type 0 where
  pub bytes : List ℕ
  pub read : IsRead told limit bytes
  pub holds : P bytes

-- a file is told to be longer than its limit, or nothing is told of it
abbrev pub IsTooLong : Option (List ℕ) → ℕ → Type 0
IsTooLong told limit = IfSome told (λ t. limit < length t)

-- the count of the files rose, and the fault name is that of this file
pub record FailedAt (old new : FilesSeen) (name : List ℕ) : Type 0 where
  pub rose : Rose old.faults new.faults
  pub named : new.fault_name ≡ name

-- the image of a guest was read, and is taken
pub record IsLoaded (held : List ℕ → Option (List ℕ)) (g : GuestSpec) (b : List ℕ) : Type 0 where
  pub read : IsRead (held g.image) image_limit b
  pub taken : IsTaken g b

-- what a disk holds at first: the bytes of its image, or none where it has no image
abbrev pub IsContent : (List ℕ → Option (List ℕ)) → Option (List ℕ) → List ℕ → Type 0
IsContent held None b = b ≡ []
IsContent held (Some name) b = IsRead (held name) disk_limit b

-- it was read, and is no longer than the disk
pub record IsFilled (held : List ℕ → Option (List ℕ)) (d : DiskSpec) (b : List ℕ) : Type 0 where
  pub read : IsContent held d.image b
  pub fills : Fills d b

-- the images of some guests and the content of some disks were read, and all were taken
pub record AreLoaded (held : List ℕ → Option (List ℕ)) (guests : List GuestSpec) (disks : List DiskSpec) (i : Inputs) : Type 0 where
  pub images : AllZip (IsLoaded held) guests i.images
  pub contents : AllZip (IsFilled held) disks i.disks

-- those of all guests and disks of an experiment
abbrev pub AreRead : (List ℕ → Option (List ℕ)) → Experiment → Inputs → Type 0
AreRead held e = AreLoaded held e.guests.items e.disks.items

-- what comes before the i-th of some things was taken, and of this thing something holds
pub record Stops {A : Type 0} (Before : List A → Inputs → Type 0) (things : List A) (i : ℕ) (P : A → Type 0) : Type 0 where
  pub inputs : Inputs
  pub before : Before (take i things) inputs
  pub thing : A
  pub at : slice_get things i ≡ Some thing
  pub why : P thing

-- the images of the guests before this one were taken; all images, and what the disks before this one hold
abbrev pub StopsAtGuest : (List ℕ → Option (List ℕ)) → Experiment → ℕ → (GuestSpec → Type 0) → Type 0
StopsAtGuest held e = Stops (λ guests. AreLoaded held guests []) e.guests.items

abbrev pub StopsAtDisk : (List ℕ → Option (List ℕ)) → Experiment → ℕ → (DiskSpec → Type 0) → Type 0
StopsAtDisk held e = Stops (AreLoaded held e.guests.items) e.disks.items
