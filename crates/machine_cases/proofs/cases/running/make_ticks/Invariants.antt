use Rattle.std.proofs.Common.{◌≡◌, length}
use Rattle.lookahead_core.specs.Motion.{Idle}
use Rattle.machine_cases.proofs.cases.running.make_ticks.Given as goal

abbrev pub invariant-loop-tick : goal.invariant-loop-tick
invariant-loop-tick g l = record {
  idle : g.N.Node.clock l.node ≡ Idle l.tick;
  arrivals : length l.arrivals ≡ g.N.Node.motion.nics (g.N.Node.state l.node);
  left : length l.left ≡ g.N.Node.motion.nics (g.N.Node.state l.node);
}
