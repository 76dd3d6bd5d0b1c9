-- A fault of a file, and one of the output, is told only where it was counted, and no count rises here.
use Rattle.std.proofs.Common.{arith}
use Rattle.exp_file.specs.declared.experiment.Experiment.{Experiment}
use Rattle.tb_io.specs.Causes.{Rose}
use Rattle.open_images.specs.declared.file_id.FileId.{FileId}
use Rattle.open_images.specs.declared.file_id.FileId.TheVariants as file
use Rattle.tb_top.specs.Ends.{Ends, no_experiment, ended, Refuses, TaskEnds, FilesServed, OutServed}
use Rattle.tb_top.specs.Origins.{Origin, File, Load, Task, Run, Plan}
use Rattle.tb_top.specs.World.{World}
use Rattle.tb_top.specs.declared.status.Status.{Status}
use Rattle.tb_top.specs.declared.status.Status.TheVariants.{ReadFault, WriteFault}
use Rattle.hostile_cases.specs.Faultless.{IsFaultless}

-- a count that stays at 0 has not risen
pub still : Rose 0 0 → ⊥
still h = omega (arith, h)

of_task : (w : World) (o : Origin) (t : Task) (e : Experiment) (f : FileId) → FilesServed w → TaskEnds w o t e (ReadFault f) → ⊥
of_task w (File name) (Run n view) e file.Experiment served h = h.2
of_task w (File name) (Run n view) e (file.Image i) served h = served h.2.why.rose
of_task w (File name) (Run n view) e (file.Disk j) served h = served h.2.why.2.rose
of_task w (Load m) (Run n view) e f served h = h.2
of_task w o Plan e f served h = h

of_refusal : (w : World) (f : FileId) → FilesServed w → Refuses w.words w.files w.files_after (ReadFault f) → ⊥
of_refusal w file.Experiment served h = served h.holds.rose
of_refusal w (file.Image i) served h = h
of_refusal w (file.Disk j) served h = h

pub faultless : {w : World} (s : Status) → FilesServed w → OutServed w → Ends w s → IsFaultless s
faultless {w} (ReadFault f) files out (no_experiment quiet h) = of_refusal w f files h
faultless {w} (ReadFault f) files out (ended o t e asked h) = of_task w o t e f files h
faultless WriteFault files out (no_experiment quiet h) = h
faultless WriteFault files out (ended o t e asked h) = out h.0
faultless _ files out ends = tt
