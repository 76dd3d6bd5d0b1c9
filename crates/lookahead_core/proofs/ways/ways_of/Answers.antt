use Rattle.lookahead_core.proofs.Listing.{ways_more}
use Rattle.lookahead_core.proofs.ways.ways_of.Goals as goal

pub loop-node-preserved : goal.loop-node-preserved
loop-node-preserved c = ways_more c.loop-node.node c.loop-node.ways.items c.push.new.self.items c.in_ok-own.own c.args.wires.now c.loop-node.invariant c.in_ok-own.ensures c.in-Ok.ensures.items
