use Rattle.std.proofs.Common.{◌≡◌}
use Rattle.lookahead_core.specs.Motion.{Running}
use Rattle.machine_cases.proofs.cases.running.make_tick.Given as goal

-- so many steps of the tick were made
abbrev pub invariant-loop-step : goal.invariant-loop-step
invariant-loop-step g l = record {
  running : g.N.Node.clock l.node ≡ Running l.now l._step;
  rate : g.N.Node.motion.rate (g.N.Node.state l.node) ≡ g.N.Node.motion.rate (g.N.Node.state l.fn.node);
  nics : g.N.Node.motion.nics (g.N.Node.state l.node) ≡ g.N.Node.motion.nics (g.N.Node.state l.fn.node);
}
