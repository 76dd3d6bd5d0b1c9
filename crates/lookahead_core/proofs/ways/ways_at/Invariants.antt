use Rattle.std.proofs.Common.{◌≡◌, take}
use Rattle.lookahead_core.specs.Ways.{into_of, out_of}
use Rattle.lookahead_core.proofs.ways.ways_at.Given as goal

abbrev pub invariant-loop-at : goal.invariant-loop-at
invariant-loop-at l = record {
  into : l.into.items ≡ into_of l.node (take l.at l.wires);
  out : l.out.items ≡ out_of l.node (take l.at l.wires);
}
