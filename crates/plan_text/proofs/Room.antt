-- The plan of an experiment is the same without the room of its lists.
use Rattle.std.proofs.Common.{ℕ, List, Option}
use Rattle.exp_file.specs.Lists.{without_room}
use Rattle.exp_file.specs.declared.experiment.Experiment.{Experiment}
use Rattle.host_plan.proofs.Room.{least_room}
use Rattle.plan_text.specs.Puts.{PutsPlan, PutsPlanPart}
use Rattle.plan_text.specs.Texts.{plan_lines}

pub puts_room : (e : Experiment) (p : List ℕ) (old new : Option (List ℕ)) → PutsPlan e p old new → PutsPlan (without_room e) p old new
unfolding plan_lines
puts_room e p old new (l, least, takes) = (l, least_room e p l least, takes)

pub part_room : (e : Experiment) (p : List ℕ) (old new : Option (List ℕ)) → PutsPlanPart e p old new → PutsPlanPart (without_room e) p old new
unfolding plan_lines
part_room e p old new (l, least, takes) = (l, least_room e p l least, takes)
