use Rattle.std.proofs.Common.{◌<◌, ◌==◌, length, arith}
use Rattle.lookahead_core.proofs.Listing.{indexes_more}
use Rattle.lookahead_core.proofs.ways.ways_at.Goals as goal

pub loop-at-preserved : goal.loop-at-preserved
loop-at-preserved c =
    let lt : c.loop-at.at < length c.args.wires.now = omega arith in
    record {
      into = indexes_more (λ w. w.to == c.args.node) c.args.wires.now c.loop-at.at _ _ _ lt c.loop-at.invariant.into c.in_ok-push_where.ensures;
      out = indexes_more (λ w. w.from == c.args.node) c.args.wires.now c.loop-at.at _ _ _ lt c.loop-at.invariant.out c.in_ok-push_where-2.ensures;
    }
