-- The image of the disk was not read, though all images and the disks before it were taken.
use Rattle.open_images.proofs.Common.{◌≡◌, ◌∙◌, ℕ, List, Some, Err, take, slice_get, Kind, DiskSpec, Experiment, Inputs, Unopened, FilesSeen, AreLoaded, disk_limit, files_seen, read_fault}
use Rattle.tb_io.specs.Reads.{Answers, Faults}
use Rattle.tb_io.specs.declared.files.ReadErr.{ReadErr}
use Rattle.tb_io.specs.declared.files.ReadErr.TheVariants.{Failed, TooLong, NoMemory}
use Rattle.open_images.specs.declared.file_id.FileId.TheVariants.{Disk}
use Rattle.open_images.proofs.load.read_content.Goals as goal

unread : (old new : FilesSeen) (had : Kind → ℕ) (e : Experiment) (i : Inputs) (j : ℕ) (d : DiskSpec) → slice_get e.disks.items j ≡ Some d → AreLoaded old.held e.guests.items (take j e.disks.items) i
    → (name n : List ℕ) → d.image ≡ Some name → n ≡ name → (fault : ReadErr) → Answers (old.held n) disk_limit (Err fault)
    → Faults (Err fault) n (old.faults, old.fault_name) (new.faults, new.fault_name) → Unopened old new had e (read_fault (Disk j) fault)
unread old new had e i j d here loaded name n image same Failed answer cause =
    record { inputs = i; before = loaded; thing = d; at = here; why = (name, image, record { rose = cause.1; named = cause.2 ∙ same }) }
unread old new had e i j d here loaded name n image same TooLong answer cause = record { inputs = i; before = loaded; thing = d; at = here; why = (name, image, rw same at answer) }
unread old new had e i j d here loaded name n image same NoMemory answer cause = tt

pub returns-in-Err-clause-missed : goal.returns-in-Err-clause-missed
returns-in-Err-clause-missed g c = λ e i had here loaded.
    rw c.read_fault.ensures
    (unread (files_seen g.F.Files c.args.files.now) (files_seen g.F.Files c.read.new.self) had e i c.args.disk c.args.spec.now here loaded
    c.in-Some.name c.as_str.result.now c.in-Some.is c.as_str.ensures.text c.in-Err.fault c.in-Err.ensures.answer c.in-Err.ensures.cause)
