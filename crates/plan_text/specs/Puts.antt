-- What a sink has taken of a plan.
use Rattle.std.specs.Prelude.{ℕ, List, Option}
use Rattle.tb_io.specs.Puts.{Takes, TakesPart}
use Rattle.exp_file.specs.declared.experiment.Experiment.{Experiment}
use Rattle.host_plan.specs.Fits.{IsLeast}
use Rattle.host_plan.specs.declared.least.Least.{Least}
use Rattle.plan_text.specs.Texts.{plan_text}

-- new tells the old bytes and then the plan of an experiment whose guests stand at p
abbrev pub PutsPlan : Experiment → List ℕ → Option (List ℕ) → Option (List ℕ) → Type 0
PutsPlan e p old new = (l : Least) × IsLeast e p l × Takes old new (plan_text e p l)

-- new tells the old bytes and then a prefix of it
abbrev pub PutsPlanPart : Experiment → List ℕ → Option (List ℕ) → Option (List ℕ) → Type 0
PutsPlanPart e p old new = (l : Least) × IsLeast e p l × TakesPart old new (plan_text e p l)
