use Rattle.std.proofs.Common.{◌≡◌, flat_map}
use Rattle.std.specs.List.{range_with_len}
use Rattle.gen_load.specs.Images.{buffer}
use Rattle.gen_load.proofs.frames.frames_of.Given as goal

abbrev pub invariant-loop-mark : goal.invariant-loop-mark
invariant-loop-mark l = l.out ≡ flat_map (buffer l.next l.number) (range_with_len 0 l.mark)
