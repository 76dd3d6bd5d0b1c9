use Rattle.std.proofs.Common.{◌≡◌, ◌∙◌, Bool}
use Rattle.std.proofs.Props.{props}
use Rattle.std.proofs.Math.Logic.{∥∥₁_elim}
use Rattle.lookahead_core.proofs.Limits.{least_goes}
use Rattle.lookahead_core.proofs.node_core.Core.may_go.Goals as goal

bool_set : (a b : Bool) (p q : a ≡ b) → p ≡ q
bool_set = hlevel props

pub returns-clause-least : goal.returns-clause-least
returns-clause-least g c = λ going least. c.may_go_at.ensures ∙ rw (c.deref.ensures.value, c.deref-2.ensures.value)
    (∥∥₁_elim (c.args.self.now.stands going) (bool_set _ _) (λ w.
    least_goes g.N.Node.motion g.N.Node.state g.N.Node.clock w.0 c.args.self.now.seats.items c.args.self.now.links.items w.1 c.args.who least))
