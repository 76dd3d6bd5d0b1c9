-- The status of each fault.
use Rattle.std.specs.Prelude.{Result, Ok, Err}
use Rattle.tb_io.specs.declared.files.ReadErr.{ReadErr}
use Rattle.tb_io.specs.declared.files.ReadErr.TheVariants as read
use Rattle.host_plan.specs.declared.overload.Overload.{Overload as Over}
use Rattle.tb_io.specs.declared.write_err.WriteErr.{WriteErr}
use Rattle.tb_io.specs.declared.write_err.WriteErr.TheVariants as write
use Rattle.open_images.specs.declared.file_id.FileId.{FileId}
use Rattle.open_images.specs.declared.open_fault.OpenFault.{OpenFault}
use Rattle.open_images.specs.declared.open_fault.OpenFault.TheVariants as open_is
use Rattle.tb_top.specs.declared.status.Status.{Status}
use Rattle.tb_top.specs.declared.status.Status.TheVariants.{Done, Overload, Build, TooLong, ReadFault, WriteFault, Memory}

-- of a file that gave no bytes
abbrev pub read_status : FileId → ReadErr → Status
read_status f read.Failed = ReadFault f
read_status f read.TooLong = TooLong f
read_status f read.NoMemory = Memory

-- of a placement that does not fit
abbrev pub over_status : Over → Status
over_status o = Overload o.slot o.need o.have

-- of a bench that was not opened
abbrev pub open_status : OpenFault → Status
open_status (open_is.TooLong f) = TooLong f
open_status (open_is.ReadFault f) = ReadFault f
open_status (open_is.Build f) = Build f
open_status open_is.Memory = Memory

-- of a bench that was run
abbrev pub run_status : Result (Unit {0}) WriteErr → Status
run_status (Ok _) = Done
run_status (Err write.NoMemory) = Memory
run_status (Err write.Failed) = WriteFault

-- memory ran out, or this holds of the status
abbrev pub OrMemory : (Status → Type 0) → Status → Type 0
OrMemory P Memory = Unit {0}
OrMemory P s = P s
