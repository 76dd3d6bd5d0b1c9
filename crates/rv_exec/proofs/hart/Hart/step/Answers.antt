use Rattle.std.proofs.Common.{sym, subst}
use Rattle.rv_exec.specs.Moves.{Moves}
use Rattle.rv_exec.proofs.Moves.{awake_moves}
use Rattle.rv_exec.proofs.hart.Hart.step.Goals as goal

pub returns-then-next_busy-clause-moves : goal.returns-then-next_busy-clause-moves
returns-then-next_busy-clause-moves g c =
    subst (λ s'. Moves g.B.Bus.bus (g.B.Bus.bus_state c.args.bus.now) s') (sym c.run.ensures.bus) (awake_moves g.B.Bus.bus _ (g.B.Bus.bus_state c.args.bus.now))
