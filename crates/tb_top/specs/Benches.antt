-- What stands of a run: what was read or made for it, its devices, and what out has taken of it.
use Rattle.std.specs.Prelude.{ℕ}
use Rattle.trace_rec.specs.declared.view.View.{View}
use Rattle.exp_file.specs.declared.experiment.Experiment.{Experiment}
use Rattle.host_plan.specs.Placing.{placed}
use Rattle.open_images.specs.Openings.{Built, Unbuilt, Unopened}
use Rattle.open_images.specs.declared.open_fault.OpenFault.{OpenFault}
use Rattle.run_views.specs.Runs.{PutsAll, PutsPart}
use Rattle.tb_top.specs.Origins.{Origin, File, Load, AreInputs}
use Rattle.tb_top.specs.World.{World}

-- why its bench was not opened: its images and disks were not all taken, which those of a load always are, or there are too few devices of a kind
abbrev pub IsUnopened : World → Origin → Experiment → OpenFault → Type 0
IsUnopened w (File name) e f = Unopened w.files w.files_after w.stock e f
IsUnopened w (Load n) e f = Unbuilt (AreInputs w.files.held (Load n) e) w.stock e f

-- out has taken the text, in this view, of a complete legal journal of n host ticks, or a prefix of the text of a legal one
abbrev pub PutsRun : World → Origin → ℕ → View → Experiment → Type 0
PutsRun w o n view e = Built (AreInputs w.files.held o e) w.stock e (λ i. PutsAll view e (placed e) i n w.out.taken w.out_after.taken)

abbrev pub PutsRunPart : World → Origin → ℕ → View → Experiment → Type 0
PutsRunPart w o n view e = Built (AreInputs w.files.held o e) w.stock e (λ i. PutsPart view e (placed e) i n w.out.taken w.out_after.taken)
