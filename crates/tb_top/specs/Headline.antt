-- The promise of the testbed. For every experiment file, the placement is accepted exactly where each slot's shares fit its capacity times the factor. After
-- every host tick t of an accepted run, unless memory, a file or the output failed, each guest's printed trace is its trace in the undilated synchronous system
-- up to some virtual tick, at least t / factor rounded down. The printed schedule is legal.
use Rattle.std.specs.Prelude.{◌≡◌, ◌≢◌, ℕ, ◌<◌, ◌≤◌, ◌⊎◌, List, length}
use Rattle.tb_io.specs.Puts.{Takes}
use Rattle.trace_rec.specs.declared.view.View.{View}
use Rattle.exp_file.specs.declared.experiment.Experiment.{Experiment}
use Rattle.host_plan.specs.Fits.{Fits, IsFirstOverload}
use Rattle.host_plan.specs.Placing.{placed}
use Rattle.host_plan.specs.declared.overload.Overload.{Overload as Over}
use Rattle.host_journal.specs.Entries.{Entry}
use Rattle.host_journal.specs.Printed.{up_to_tick}
use Rattle.host_journal.specs.declared.head.Head.{Head}
use Rattle.slot_sched.specs.Legal.{IsComplete}
use Rattle.bench_build.specs.Inputs.{Inputs}
use Rattle.bench_build.specs.Setups.{run_rules}
use Rattle.bench_build.specs.Stocks.{Suffices}
use Rattle.tb_top.specs.Ends.{Asks, MayRun, IsPartPut}
use Rattle.tb_top.specs.Origins.{Origin, Task, Run, AreInputs}
use Rattle.run_views.specs.Runs.{IsHead}
use Rattle.tb_top.specs.Statuses.{over_status}
use Rattle.run_views.specs.Texts.{text}
use Rattle.run_views.specs.Traced.{IsTraced}
use Rattle.tb_top.specs.World.{World, Quiet}
use Rattle.tb_top.specs.declared.status.Status.{Status}
use Rattle.tb_top.specs.declared.status.Status.TheVariants.{Done, TooLong, ReadFault, WriteFault, Memory}

-- neither memory nor a file nor the output failed
abbrev pub IsUndisturbed : Status → Type 0
IsUndisturbed Memory = ⊥
IsUndisturbed (TooLong f) = ⊥
IsUndisturbed (ReadFault f) = ⊥
IsUndisturbed WriteFault = ⊥
IsUndisturbed _ = Unit {0}

-- the placement is accepted where each slot's shares fit its capacity times the factor, and else the first slot that is over is told
pub record IsJudged (e : Experiment) (s : Status) : Type 0 where
  pub accepted : Fits e (placed e) → (o : Over) → s ≡ over_status o → ⊥
  pub refused : ¬ Fits e (placed e) → (o : Over) × IsFirstOverload e (placed e) o × (s ≡ over_status o)

-- of a run of n host ticks, out has taken the text of a journal in this view. Its schedule is legal and comes to its end, and after every host tick each guest
-- is traced
pub record IsPrinted (w : World) (o : Origin) (n : ℕ) (view : View) (e : Experiment) : Type 0 where
  pub inputs : Inputs
  pub loaded : AreInputs w.files.held o e inputs
  pub head : Head
  pub head_is : IsHead e n head
  pub journal : List Entry
  pub taken : Takes w.out.taken w.out_after.taken (text view head (run_rules e (placed e) inputs n) journal)
  pub schedule : IsComplete (run_rules e (placed e) inputs n) journal
  pub traces : (t : ℕ) → t ≤ n → (g : ℕ) → g < length e.guests.items → IsTraced e inputs t g (up_to_tick t journal)

-- of the experiment e in the file that the words name, or of the load that they ask for: the placement is accepted exactly where it fits; an accepted run whose
-- images and disks load and whose devices suffice is done; what it then printed, in whichever view; what was printed where memory or the output failed, nothing or a
-- first part of the text of a legal journal or of the plan; and only where a write fault is told may a put to the output have failed
pub record Headline (w : World) (s : Status) : Type 0 where
  pub accepted : (o : Origin) (task : Task) (e : Experiment) → Asks w.words w.files.held o task e → IsUndisturbed s → IsJudged e s
  pub runs : (e : Experiment) → MayRun w.words w.files.held e → Suffices e w.stock → IsUndisturbed s → s ≡ Done
  pub printed : (o : Origin) (n : ℕ) (view : View) (e : Experiment) → Asks w.words w.files.held o (Run n view) e → s ≡ Done → IsPrinted w o n view e
  pub cut_short : (s ≡ Memory) ⊎ (s ≡ WriteFault) → Quiet w ⊎ IsPartPut w
  pub unfailed : s ≢ WriteFault → w.out_after.faults ≡ w.out.faults
