use Rattle.std.proofs.Common.{arith}
use Rattle.gen_load.specs.Images.{sends}
use Rattle.gen_load.proofs.Rows.{items_grown}
use Rattle.gen_load.proofs.table.put_rounds.Goals as goal

pub loop-round-preserved : goal.loop-round-preserved
loop-round-preserved c =
    items_grown sends c.args.rounds.now c.loop-round.round-index 0 c.args.table.now.items c.loop-round.table.items c.put_sends.new.table.items (omega arith)
    c.loop-round.invariant c.in_ok-put_sends.ensures
