use Rattle.std.proofs.Common.{◌≡◌, ◌++◌, take, flat_map}
use Rattle.gen_load.specs.Images.{pair_bytes}
use Rattle.gen_load.proofs.pairs.put_pairs.Given as goal

abbrev pub invariant-loop-pair : goal.invariant-loop-pair
invariant-loop-pair l = l.out ≡ l.initial.out ++ flat_map pair_bytes (take l.pair-index l.pairs)
