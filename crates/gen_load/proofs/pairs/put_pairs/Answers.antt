use Rattle.std.proofs.Common.{arith}
use Rattle.gen_load.specs.Images.{pair_bytes}
use Rattle.gen_load.proofs.Rows.{items_grown}
use Rattle.gen_load.proofs.pairs.put_pairs.Goals as goal

pub loop-pair-preserved : goal.loop-pair-preserved
loop-pair-preserved c =
    items_grown pair_bytes c.args.pairs.now c.loop-pair.pair-index (0, 0) c.args.out.now c.loop-pair.out c.put_pair.new.out (omega arith) c.loop-pair.invariant
    c.in_ok-put_pair.ensures
