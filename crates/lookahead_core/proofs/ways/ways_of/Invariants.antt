use Rattle.lookahead_core.specs.Ways.{AllWays}
use Rattle.lookahead_core.proofs.ways.ways_of.Given as goal

abbrev pub invariant-loop-node : goal.invariant-loop-node
invariant-loop-node l = AllWays l.node l.ways.items l.wires
