use Rattle.std.proofs.Common.{◌≡◌, ◌+◌, ◌*◌, flat_map}
use Rattle.std.specs.List.{range_with_len}
use Rattle.gen_load.specs.Images.{descriptor}
use Rattle.gen_load.proofs.queue.descriptors_of.Given as goal

abbrev pub invariant-loop-number : goal.invariant-loop-number
invariant-loop-number l = l.out ≡ flat_map (λ k. descriptor (l.buffers.first + 128 * k) l.buffers.len l.buffers.flags) (range_with_len 0 l.number)
