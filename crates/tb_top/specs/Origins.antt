-- What a command asks for: where its experiment comes from, and what is done with it.
use Rattle.std.specs.Prelude.{◌≡◌, ℕ, ◌≤◌, ◌⊎◌, List, Option, Ok}
use Rattle.trace_rec.specs.declared.view.View.{View}
use Rattle.trace_rec.specs.declared.view.View.TheVariants.{Summary}
use Rattle.exp_file.specs.Reading.{reading}
use Rattle.exp_file.specs.declared.experiment.Experiment.{Experiment}
use Rattle.bench_build.specs.Inputs.{Inputs}
use Rattle.gen_load.specs.Loads.{ring, ring_images}
use Rattle.words_line.specs.Words.{command}
use Rattle.words_line.specs.declared.command.Command.{Command}
use Rattle.words_line.specs.declared.command.Command.TheVariants as command_is
use Rattle.open_images.specs.Openings.{images_alone}
use Rattle.open_images.specs.Reads.{HasRead, AreRead}

-- the experiment is that of a file with this name, or the generated load of so many guests
pub data Origin : Type 0 where
  File : List ℕ → Origin
  Load : ℕ → Origin

-- what is done with it: it is run for so many host ticks and shown in this view, or its plan is put
pub data Task : Type 0 where
  Run : ℕ → View → Task
  Plan : Task

abbrev pub origin_of : Command → Origin
origin_of (command_is.Run file host_ticks view) = File file
origin_of (command_is.Plan file) = File file
origin_of (command_is.Gen n host_ticks) = Load n

-- a generated load is run, and its summary shown
abbrev pub task_of : Command → Task
task_of (command_is.Run file host_ticks view) = Run host_ticks view
task_of (command_is.Plan file) = Plan
task_of (command_is.Gen n host_ticks) = Run host_ticks Summary

-- the words ask for this task with the experiment of this origin
pub record AreFor (words : List (List ℕ)) (o : Origin) (task : Task) : Type 0 where
  pub given : Command
  pub read : command words ≡ Ok given
  pub origin : origin_of given ≡ o
  pub task_is : task_of given ≡ task

-- the bytes that an experiment file may have, and what they say
abbrev pub experiment_limit : ℕ
experiment_limit = 1048576

abbrev pub Says : List ℕ → Experiment → Type 0
Says b e = reading b ≡ Ok e

-- the experiment of an origin: the bytes that were read of the file say it, or it is the load
abbrev pub IsFrom : (List ℕ → Option (List ℕ)) → Origin → Experiment → Type 0
IsFrom held (File name) e = HasRead (held name) experiment_limit (λ b. Says b e)
IsFrom held (Load n) e = e ≡ ring n

-- what its guests and disks start with: their files were read and taken, or it is made with the load, which has no disks
abbrev pub AreInputs : (List ℕ → Option (List ℕ)) → Origin → Experiment → Inputs → Type 0
AreInputs held (File name) e i = AreRead held e i
AreInputs held (Load n) e i = i ≡ images_alone (ring_images n)

-- a file says the experiment, or it is a load of 2 to 32 guests
abbrev pub IsGiven : Experiment → Type 0
IsGiven e = ((b : List ℕ) × Says b e) ⊎ ((n : ℕ) × (2 ≤ n) × (n ≤ 32) × (e ≡ ring n))
