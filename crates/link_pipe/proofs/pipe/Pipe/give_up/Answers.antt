use Rattle.std.proofs.Common.{◌≤◌, ◌∙◌, sym, ap, subst}
use Rattle.link_pipe.specs.Piped.{Piped, NoneBefore, InOrder, ended}
use Rattle.link_pipe.proofs.Kept.{sound_ended, ended_is, order_later}
use Rattle.link_pipe.proofs.pipe.Pipe.give_up.Goals as goal

pub invariant_of-self : goal.invariant_of-self
invariant_of-self c =
    let s = c.self.inside in
    let lt : s.least ≤ c.args.now = subst (λ (p : Piped). p.least ≤ c.args.now) (sym c.self.view_is) c.requires.later in
    let nb : NoneBefore c.args.now s.held.items = subst (λ (p : Piped). NoneBefore c.args.now p.backlog.held) (sym c.self.view_is) c.requires.none_before in
    rw c.move_leaving.ensures.left (sound_ended s.params s.last_end s.least c.args.now s.held.items c.self.invariant.0 lt nb, c.move_leaving.ensures.capacity ∙ c.self.invariant.1)

pub returns-clause-pipe : goal.returns-clause-pipe
returns-clause-pipe c =
    let s = c.self.inside in
    rw c.move_leaving.ensures.left (ended_is s.params s.last_end s.least c.args.now s.held.items ∙ ap (λ (p : Piped). ended p c.args.now) c.self.view_is)

pub returns-clause-in_order : goal.returns-clause-in_order
returns-clause-in_order c =
    let s = c.self.inside in
    let nb : NoneBefore c.args.now s.held.items = subst (λ (p : Piped). NoneBefore c.args.now p.backlog.held) (sym c.self.view_is) c.requires.none_before in
    subst (λ (p : Piped). InOrder p.params.bandwidth c.args.now p.backlog.last_end p.backlog.held) c.self.view_is (order_later s.params.bandwidth s.least c.args.now s.last_end s.held.items nb c.self.invariant.0.in_order)
