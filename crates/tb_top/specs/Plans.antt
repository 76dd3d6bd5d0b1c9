-- How a plan ends, and what out has taken then.
use Rattle.std.specs.Prelude.{◌≡◌, ℕ, ◌⊎◌, List}
use Rattle.tb_io.specs.Causes.{Rose}
use Rattle.exp_file.specs.declared.experiment.Experiment.{Experiment}
use Rattle.host_plan.specs.Fits.{Fits, IsFirstOverload}
use Rattle.plan_text.specs.Puts.{PutsPlan, PutsPlanPart}
use Rattle.tb_top.specs.declared.status.Status.{Status}
use Rattle.tb_top.specs.declared.status.Status.TheVariants.{Done, Overload, WriteFault, Memory}
use Rattle.tb_top.specs.World.{SinkSeen}

-- the plan of an experiment whose guests stand at p ends so. It ends well exactly where that fits, and with the least slot that is over where it does not, and
-- in both cases out has taken the whole text, else a prefix of it
abbrev pub Plans : Experiment → List ℕ → SinkSeen → SinkSeen → Status → Type 0
Plans e p old new Done = Fits e p × PutsPlan e p old.taken new.taken
Plans e p old new (Overload slot need have) = IsFirstOverload e p (record { slot = slot; need = need; have = have }) × PutsPlan e p old.taken new.taken
Plans e p old new WriteFault = Rose old.faults new.faults × PutsPlanPart e p old.taken new.taken
Plans e p old new Memory = (new.taken ≡ old.taken) ⊎ PutsPlanPart e p old.taken new.taken
Plans e p old new _ = ⊥
