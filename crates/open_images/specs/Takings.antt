-- What a builder has taken so far, and the fault of each answer.
use Rattle.std.specs.Prelude.{ℕ, List}
use Rattle.exp_file.specs.declared.disk_spec.DiskSpec.{DiskSpec}
use Rattle.exp_file.specs.declared.experiment.Experiment.{Experiment}
use Rattle.exp_file.specs.declared.guest_spec.GuestSpec.{GuestSpec}
use Rattle.tb_io.specs.declared.files.ReadErr.{ReadErr}
use Rattle.tb_io.specs.declared.files.ReadErr.TheVariants as read
use Rattle.bench_build.specs.Building.{IsBuilding}
use Rattle.bench_build.specs.Inputs.{Inputs}
use Rattle.bench_build.specs.declared.builder.Builder.{Builder}
use Rattle.bench_build.specs.declared.build_fault.BuildFault.{BuildFault}
use Rattle.bench_build.specs.declared.build_fault.BuildFault.TheVariants as build
use Rattle.open_images.specs.declared.file_id.FileId.{FileId}
use Rattle.open_images.specs.declared.open_fault.OpenFault.{OpenFault}
use Rattle.open_images.specs.declared.open_fault.OpenFault.TheVariants.{TooLong, ReadFault, Build, Memory}
use Rattle.open_images.specs.Reads.{FilesSeen, AreLoaded}

-- a builder of the experiment e on these slots has taken the images of some of its guests and what some of its disks hold, the first ones
pub record HasTaken (old : FilesSeen) (guests : List GuestSpec) (disks : List DiskSpec) (e : Experiment) (slots : List ℕ) (b : Builder) : Type 0 where
  pub inputs : Inputs
  pub loaded : AreLoaded old.held guests disks inputs
  pub building : IsBuilding e slots inputs b

-- of a file that gave no bytes
abbrev pub read_fault : FileId → ReadErr → OpenFault
read_fault f read.Failed = ReadFault f
read_fault f read.TooLong = TooLong f
read_fault f read.NoMemory = Memory

-- of a builder that refused
abbrev pub build_fault : BuildFault → OpenFault
build_fault build.NoMemory = Memory
build_fault f = Build f
