use Rattle.std.proofs.Common.{◌∙◌, ◌++◌, List, ℕ, ap}
use Rattle.std.specs.Int.{w16, to_le_bytes}
use Rattle.gen_load.proofs.Rows.{rows_grown}
use Rattle.gen_load.proofs.queue.put_heads.Goals as goal

pub loop-head-preserved : goal.loop-head-preserved
loop-head-preserved c =
    rows_grown (to_le_bytes w16) c.loop-head.head c.args.out.now c.loop-head.out c.push_slice.new.self c.loop-head.invariant
    (c.in_ok-push_slice.ensures.ok ∙ ap (λ (t : List ℕ). c.loop-head.out ++ t) c.to_le_bytes.ensures)
