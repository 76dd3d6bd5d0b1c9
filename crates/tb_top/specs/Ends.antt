-- How a command may end, and what stands then.
use Rattle.std.specs.Prelude.{◌≡◌, ℕ, ◌≤◌, ◌⊎◌, List, length, Option, Some, Err, slice_get}
use Rattle.tb_io.specs.Causes.{Rose}
use Rattle.trace_rec.specs.declared.view.View.{View}
use Rattle.exp_file.specs.Reading.{reading}
use Rattle.exp_file.specs.declared.disk_spec.DiskSpec.{DiskSpec}
use Rattle.exp_file.specs.declared.experiment.Experiment.{Experiment}
use Rattle.exp_file.specs.declared.guest_spec.GuestSpec.{GuestSpec}
use Rattle.host_plan.specs.Fits.{Fits, IsFirstOverload}
use Rattle.host_plan.specs.Placing.{placed}
use Rattle.plan_text.specs.Puts.{PutsPlan, PutsPlanPart}
use Rattle.bench_build.specs.Answers.{IsTaken, Fills}
use Rattle.bench_build.specs.Stocks.{Suffices}
use Rattle.open_images.specs.Reads.{FilesSeen, HasRead, IsTooLong, FailedAt, image_limit, disk_limit}
use Rattle.open_images.specs.declared.file_id.FileId.TheVariants as file
use Rattle.open_images.specs.declared.open_fault.OpenFault.{OpenFault}
use Rattle.open_images.specs.declared.open_fault.OpenFault.TheVariants as open_is
use Rattle.tb_top.specs.declared.status.Status.{Status}
use Rattle.tb_top.specs.declared.status.Status.TheVariants.{Done, Overload, Usage, Experiment as Refused, Build, TooLong, ReadFault, WriteFault, Memory}
use Rattle.gen_load.specs.Loads.{ring}
use Rattle.words_line.specs.Words.{command}
use Rattle.tb_top.specs.Benches.{IsUnopened, PutsRun, PutsRunPart}
use Rattle.tb_top.specs.Origins.{Origin, File, Load, Task, Run, Plan, AreFor, IsFrom, Says, experiment_limit}
use Rattle.tb_top.specs.Plans.{Plans}
use Rattle.tb_top.specs.World.{World, Quiet}

-- the words ask for some task with the experiment in a file, and this holds of its name
pub record Names (words : List (List ℕ)) (P : List ℕ → Type 0) : Type 0 where
  pub name : List ℕ
  pub task : Task
  pub command : AreFor words (File name) task
  pub holds : P name

-- what a status says where there is no experiment: the words are refused, or their file is too long, or its read failed, or it is refused
abbrev pub Refuses : List (List ℕ) → FilesSeen → FilesSeen → Status → Type 0
Refuses words old new (Usage f) = command words ≡ Err f
Refuses words old new (TooLong file.Experiment) = Names words (λ name. IsTooLong (old.held name) experiment_limit)
Refuses words old new (ReadFault file.Experiment) = Names words (FailedAt old new)
Refuses words old new (Refused f) = Names words (λ name. HasRead (old.held name) experiment_limit (λ b. reading b ≡ Err f))
Refuses words old new _ = ⊥

-- the words ask for this task with an experiment of this origin, and it is this one
pub record IsAsked (words : List (List ℕ)) (held : List ℕ → Option (List ℕ)) (o : Origin) (task : Task) (e : Experiment) : Type 0 where
  pub command : AreFor words o task
  pub from : IsFrom held o e

-- out has taken all of a task: the text of a complete legal journal of the run in its view, or the plan
abbrev pub PutsTask : World → Origin → Task → Experiment → Type 0
PutsTask w o (Run n view) e = PutsRun w o n view e
PutsTask w o Plan e = PutsPlan e (placed e) w.out.taken w.out_after.taken

-- or a prefix: of the text of a legal journal of a run whose placement fits, or of the plan
abbrev pub PutsTaskPart : World → Origin → Task → Experiment → Type 0
PutsTaskPart w o (Run n view) e = Fits e (placed e) × PutsRunPart w o n view e
PutsTaskPart w o Plan e = PutsPlanPart e (placed e) w.out.taken w.out_after.taken

-- what out has taken where the placement does not fit: nothing of a run, and the plan
abbrev pub PutsOver : World → Task → Experiment → Type 0
PutsOver w (Run n view) e = Quiet w
PutsOver w Plan e = PutsPlan e (placed e) w.out.taken w.out_after.taken

-- nothing was put of a run that fits, whose bench was not opened
abbrev pub IsUnrun : World → Origin → Experiment → OpenFault → Type 0
IsUnrun w o e f = Quiet w × Fits e (placed e) × IsUnopened w o e f

-- what a status says of a task with an experiment
abbrev pub TaskEnds : World → Origin → Task → Experiment → Status → Type 0
TaskEnds w o task e Done = Fits e (placed e) × PutsTask w o task e
TaskEnds w o task e (Overload slot need have) = IsFirstOverload e (placed e) (record { slot = slot; need = need; have = have }) × PutsOver w task e
TaskEnds w o task e WriteFault = Rose w.out.faults w.out_after.faults × PutsTaskPart w o task e
TaskEnds w o task e Memory = PutsTaskPart w o task e
TaskEnds w o (Run n view) e (TooLong f) = IsUnrun w o e (open_is.TooLong f)
TaskEnds w o (Run n view) e (ReadFault f) = IsUnrun w o e (open_is.ReadFault f)
TaskEnds w o (Run n view) e (Build f) = IsUnrun w o e (open_is.Build f)
TaskEnds w o task e s = ⊥

-- what a status says: nothing was put, and memory ran out, or there is no experiment; or the words ask for an experiment, and so the task with it ended
pub data Ends (w : World) : Status → Type 0 where
  no_memory : Quiet w → Ends w Memory
  no_experiment : {s : Status} → Quiet w → Refuses w.words w.files w.files_after s → Ends w s
  ended : {s : Status} (o : Origin) (task : Task) (e : Experiment) → IsAsked w.words w.files.held o task e → TaskEnds w o task e s → Ends w s

-- out has taken a prefix of what the words ask for
pub record IsPartPut (w : World) : Type 0 where
  pub origin : Origin
  pub task : Task
  pub experiment : Experiment
  pub asked : IsAsked w.words w.files.held origin task experiment
  pub part : PutsTaskPart w origin task experiment

-- a file is told, within its limit, and this holds of its bytes
pub record IsTold (told : Option (List ℕ)) (limit : ℕ) (P : List ℕ → Type 0) : Type 0 where
  pub bytes : List ℕ
  pub told_is : told ≡ Some bytes
  pub short : length bytes ≤ limit
  pub holds : P bytes

-- it is so of the images of the guests, and each is taken
abbrev pub AreTold : (List ℕ → Option (List ℕ)) → List GuestSpec → Type 0
AreTold held guests = (i : ℕ) (g : GuestSpec) → slice_get guests i ≡ Some g → IsTold (held g.image) image_limit (IsTaken g)

-- and of the images of those disks that have one, and each is no longer than its disk
abbrev pub DisksAreTold : (List ℕ → Option (List ℕ)) → List DiskSpec → Type 0
DisksAreTold held disks = (j : ℕ) (d : DiskSpec) (name : List ℕ) → slice_get disks j ≡ Some d → d.image ≡ Some name → IsTold (held name) disk_limit (Fills d)

-- the experiment of an origin, as it is told: the file is told, within its limit, and says it, or it is the load
abbrev pub IsToldOf : (List ℕ → Option (List ℕ)) → Origin → Experiment → Type 0
IsToldOf held (File name) e = IsTold (held name) experiment_limit (λ b. Says b e)
IsToldOf held (Load n) e = e ≡ ring n

-- the words ask for this task with an experiment of this origin, which is told, and it is this one
pub record Asks (words : List (List ℕ)) (held : List ℕ → Option (List ℕ)) (o : Origin) (task : Task) (e : Experiment) : Type 0 where
  pub command : AreFor words o task
  pub told : IsToldOf held o e

-- they ask for its plan
pub record AsksPlan (words : List (List ℕ)) (held : List ℕ → Option (List ℕ)) (e : Experiment) : Type 0 where
  pub origin : Origin
  pub asks : Asks words held origin Plan e

-- the experiment of a file fits on its slots, and its images and disks are taken
pub record IsFileRight (held : List ℕ → Option (List ℕ)) (e : Experiment) : Type 0 where
  pub fits : Fits e (placed e)
  pub images : AreTold held e.guests.items
  pub disks : DisksAreTold held e.disks.items

-- a load always fits, and reads no file
abbrev pub IsRight : (List ℕ → Option (List ℕ)) → Origin → Experiment → Type 0
IsRight held (File name) e = IsFileRight held e
IsRight held (Load n) e = Unit {0}

-- they ask for a run of an experiment that is right
pub record MayRun (words : List (List ℕ)) (held : List ℕ → Option (List ℕ)) (e : Experiment) : Type 0 where
  pub origin : Origin
  pub host_ticks : ℕ
  pub view : View
  pub asks : Asks words held origin (Run host_ticks view) e
  pub right : IsRight held origin e

-- no file was at fault, and no put to out failed
abbrev pub FilesServed : World → Type 0
FilesServed w = ¬ Rose w.files.faults w.files_after.faults

abbrev pub OutServed : World → Type 0
OutServed w = ¬ Rose w.out.faults w.out_after.faults

-- where all that is told is right, there are devices enough, and nothing fails, a run comes to its end, or finds no memory
abbrev pub Completes : World → Status → Type 0
Completes w s = (e : Experiment) → MayRun w.words w.files.held e → Suffices e w.stock →
    FilesServed w → OutServed w → (s ≡ Done) ⊎ (s ≡ Memory)

-- where the file of a plan is told and right and no file fails, the plan is put and the status says whether it fits, but for a failed put and
-- want of memory
abbrev pub IsPlanned : World → Status → Type 0
IsPlanned w s = (e : Experiment) → AsksPlan w.words w.files.held e → FilesServed w → Plans e (placed e) w.out w.out_after s
