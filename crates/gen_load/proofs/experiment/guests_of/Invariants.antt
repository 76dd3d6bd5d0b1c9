use Rattle.std.proofs.Common.{◌≡◌, map}
use Rattle.std.specs.List.{range_with_len}
use Rattle.gen_load.specs.Loads.{ring_guest}
use Rattle.gen_load.proofs.experiment.guests_of.Given as goal

abbrev pub invariant-loop-number : goal.invariant-loop-number
invariant-loop-number l = l.list.items ≡ map ring_guest (range_with_len 0 l.number)
