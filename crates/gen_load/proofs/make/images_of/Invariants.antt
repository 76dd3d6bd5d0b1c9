use Rattle.std.proofs.Common.{◌≡◌, map}
use Rattle.std.specs.List.{range_with_len}
use Rattle.gen_load.specs.Images.{guest_image}
use Rattle.gen_load.proofs.make.images_of.Given as goal

abbrev pub invariant-loop-number : goal.invariant-loop-number
invariant-loop-number l = l.list.items ≡ map (guest_image l.count) (range_with_len 0 l.number)
