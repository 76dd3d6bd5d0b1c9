use Rattle.std.proofs.Common.{◌≡◌, ◌++◌, take, flat_map}
use Rattle.gen_load.specs.Images.{sends}
use Rattle.gen_load.proofs.table.put_rounds.Given as goal

abbrev pub invariant-loop-round : goal.invariant-loop-round
invariant-loop-round l = l.table.items ≡ l.initial.table.items ++ flat_map sends (take l.round-index l.rounds)
