use Rattle.std.proofs.Common.{[]}
use Rattle.gen_load.proofs.Rows.{rows_grown}
use Rattle.gen_load.proofs.frames.frames_of.Goals as goal

pub loop-mark-preserved : goal.loop-mark-preserved
loop-mark-preserved c =
    rows_grown _ c.loop-mark.mark [] c.loop-mark.out c.put_buffer.new.out c.loop-mark.invariant
    c.in_ok-put_buffer.ensures
