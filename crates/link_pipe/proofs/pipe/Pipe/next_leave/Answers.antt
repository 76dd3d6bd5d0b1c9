use Rattle.std.proofs.Common.{◌≡◌, ℕ, sym, ap, subst}
use Rattle.link_pipe.specs.Offers.{Leaving}
use Rattle.link_pipe.specs.Piped.{Piped, NoneBefore}
use Rattle.link_pipe.proofs.Kept.{order_first}
use Rattle.link_pipe.proofs.pipe.Pipe.next_leave.Goals as goal

pub returns-clause-none_before : goal.returns-clause-none_before
returns-clause-none_before c =
    let s = c.self.inside in
    let leave : c.first.inside.leave ≡ c.in_ok-first.first.now.leave = ap (λ (x : Leaving). x.leave) c.first.view_is in
    let before : NoneBefore c.in_ok-first.first.now.leave s.held.items = order_first s.params.bandwidth s.least s.last_end s.held.items c.in_ok-first.first.now c.self.invariant.0.in_order c.in_ok-first.ensures in
    subst (λ (p : Piped). NoneBefore c.first.inside.leave p.backlog.held) c.self.view_is (subst (λ (n : ℕ). NoneBefore n s.held.items) (sym leave) before)
