use Rattle.std.proofs.Common.{◌∙◌, ◌+◌, ◌*◌, [], ◌++◌, ℕ, ap}
use Rattle.gen_load.specs.Images.{descriptor}
use Rattle.gen_load.proofs.Rows.{rows_grown}
use Rattle.gen_load.proofs.queue.descriptors_of.Goals as goal

pub loop-number-preserved : goal.loop-number-preserved
loop-number-preserved c =
    rows_grown (λ (k : ℕ). descriptor (c.args.buffers.now.first + 128 * k) c.args.buffers.now.len c.args.buffers.now.flags) c.loop-number.number [] c.loop-number.out
    c.put_descriptor.new.out c.loop-number.invariant
    (c.in_ok-put_descriptor.ensures
    ∙ ap (λ (k : ℕ). c.loop-number.out ++ descriptor (c.args.buffers.now.first + 128 * k) c.args.buffers.now.len c.args.buffers.now.flags) c.from.ensures)
