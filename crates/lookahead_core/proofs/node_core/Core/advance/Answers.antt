use Rattle.std.proofs.Common.{◌≡◌, ◌++◌, ℕ, List, take, drop, length, ◌∙◌, sym, ap, subst}
use Rattle.std.proofs.Math.Seq.{take-append_seam}
use Rattle.std.proofs.Props.{props}
use Rattle.std.proofs.Math.Logic.{∥∥₁_elim}
use Rattle.lookahead_core.specs.Events.{Progress}
use Rattle.lookahead_core.specs.Links.{wires_in}
use Rattle.lookahead_core.specs.Stands.{StandsForSome}
use Rattle.lookahead_core.specs.Ways.{AllWays}
use Rattle.lookahead_core.proofs.Found.{still}
use Rattle.lookahead_core.proofs.Seats.{read_same}
use Rattle.lookahead_core.proofs.Tells.{goes_on}
use Rattle.lookahead_core.proofs.node_core.Core.advance.Goals as goal

pub advance_at-requires-clause-stands : goal.advance_at-requires-clause-stands
advance_at-requires-clause-stands g c = rw (c.deref_mut.ensures.value, c.deref_mut-2.ensures.value) (c.args.self.now.stands c.requires.going)

-- what was written through the slice of a vector
written : {A : Type 0} (n : ℕ) (new rest : List A) → n ≡ length new → take n (new ++ rest) ≡ new
written n new rest e = rw e (take-append_seam new rest)

pub returns-in_err-advanced-clause-wires : goal.returns-in_err-advanced-clause-wires
returns-in_err-advanced-clause-wires g c = ap wires_in (written c.args.self.now.links.len c.advance_at.new.links (drop (length c.advance_at.new.links) c.args.self.now.links.items) (c.args.self.now.links.ok.0 ∙ ap length (sym c.deref_mut-2.ensures.value) ∙ sym c.advance_at.auto.links)) ∙ c.advance_at.ensures.wires ∙ ap wires_in c.deref_mut-2.ensures.value

pub invariant_of-self-2 : goal.invariant_of-self-2
invariant_of-self-2 g c = record {
  wired = rw ((written c.args.self.now.seats.len c.advance_at.new.seats (drop (length c.advance_at.new.seats) c.args.self.now.seats.items) (c.args.self.now.seats.ok.0 ∙ ap length (sym c.deref_mut.ensures.value) ∙ sym c.advance_at.auto.seats)), (written c.args.self.now.links.len c.advance_at.new.links (drop (length c.advance_at.new.links) c.args.self.now.links.items) (c.args.self.now.links.ok.0 ∙ ap length (sym c.deref_mut-2.ensures.value) ∙ sym c.advance_at.auto.links))) c.advance_at.ensures.wired;
  listed = rw ((written c.args.self.now.seats.len c.advance_at.new.seats (drop (length c.advance_at.new.seats) c.args.self.now.seats.items) (c.args.self.now.seats.ok.0 ∙ ap length (sym c.deref_mut.ensures.value) ∙ sym c.advance_at.auto.seats)), (written c.args.self.now.links.len c.advance_at.new.links (drop (length c.advance_at.new.links) c.args.self.now.links.items) (c.args.self.now.links.ok.0 ∙ ap length (sym c.deref_mut-2.ensures.value) ∙ sym c.advance_at.auto.links)))
      (subst (λ n. AllWays n c.args.self.now.ways.items (wires_in c.advance_at.new.links)) (ap length (sym c.deref_mut.ensures.value) ∙ sym c.advance_at.auto.seats)
      (subst (AllWays (length c.args.self.now.seats.items) c.args.self.now.ways.items) (sym (c.advance_at.ensures.wires ∙ ap wires_in c.deref_mut-2.ensures.value)) c.args.self.now.listed));
  stands = λ _.
      let some : StandsForSome g.N.Node.motion g.N.Node.state g.N.Node.clock c.args.self.now.seats.items c.args.self.now.links.items = c.args.self.now.stands c.requires.going in
      rw ((written c.args.self.now.seats.len c.advance_at.new.seats (drop (length c.advance_at.new.seats) c.args.self.now.seats.items) (c.args.self.now.seats.ok.0 ∙ ap length (sym c.deref_mut.ensures.value) ∙ sym c.advance_at.auto.seats)), (written c.args.self.now.links.len c.advance_at.new.links (drop (length c.advance_at.new.links) c.args.self.now.links.items) (c.args.self.now.links.ok.0 ∙ ap length (sym c.deref_mut-2.ensures.value) ∙ sym c.advance_at.auto.links)))
      (still g.N.Node.motion g.N.Node.state g.N.Node.clock c.args.self.now.seats.items c.args.self.now.links.items some c.args.who c.in_ok-advanced.advanced.used c.advance_at.new.seats c.advance_at.new.links
      (λ x st. rw (← c.deref_mut.ensures.value) (c.in_ok-advanced.ensures.progress x (rw (c.deref_mut.ensures.value, c.deref_mut-2.ensures.value) st))));
}

pub returns-clause-progress : goal.returns-clause-progress
returns-clause-progress g c = λ x st. goes_on x c.args.who c.in_ok-advanced.advanced.used c.args.self.now _
    (rw ((written c.args.self.now.seats.len c.advance_at.new.seats (drop (length c.advance_at.new.seats) c.args.self.now.seats.items) (c.args.self.now.seats.ok.0 ∙ ap length (sym c.deref_mut.ensures.value) ∙ sym c.advance_at.auto.seats)), (written c.args.self.now.links.len c.advance_at.new.links (drop (length c.advance_at.new.links) c.args.self.now.links.items) (c.args.self.now.links.ok.0 ∙ ap length (sym c.deref_mut-2.ensures.value) ∙ sym c.advance_at.auto.links)))
    (rw (← c.deref_mut.ensures.value) (c.in_ok-advanced.ensures.progress x (rw (c.deref_mut.ensures.value, c.deref_mut-2.ensures.value) st.stands))))

pub returns-clause-recs : goal.returns-clause-recs
returns-clause-recs g c = λ e x st. rw (← c.deref_mut.ensures.value) (c.in_ok-advanced.ensures.recs e x (rw (c.deref_mut.ensures.value, c.deref_mut-2.ensures.value) st.stands))

pub returns-clause-others : goal.returns-clause-others
returns-clause-others g c = λ i ne. ∥∥₁_elim (c.args.self.now.stands c.requires.going) (hlevel props) (λ w.
    let p : Progress g.N.Node.motion g.N.Node.state g.N.Node.clock w.0 c.args.who c.in_ok-advanced.advanced.used c.args.self.now.seats.items c.advance_at.new.seats c.advance_at.new.links =
    rw (← c.deref_mut.ensures.value) (c.in_ok-advanced.ensures.progress w.0 (rw (c.deref_mut.ensures.value, c.deref_mut-2.ensures.value) w.1)) in
    rw (written c.args.self.now.seats.len c.advance_at.new.seats (drop (length c.advance_at.new.seats) c.args.self.now.seats.items) (c.args.self.now.seats.ok.0 ∙ ap length (sym c.deref_mut.ensures.value) ∙ sym c.advance_at.auto.seats)) (read_same (λ s. s.done) c.advance_at.new.seats c.args.self.now.seats.items i (p.others i ne)))

pub returns-clause-rests : goal.returns-clause-rests
returns-clause-rests g c = λ rest.
    rw (written c.args.self.now.seats.len c.advance_at.new.seats (drop (length c.advance_at.new.seats) c.args.self.now.seats.items) (c.args.self.now.seats.ok.0 ∙ ap length (sym c.deref_mut.ensures.value) ∙ sym c.advance_at.auto.seats)) (c.in_ok-advanced.ensures.rests (rw c.deref_mut.ensures.value rest))

pub returns-clause-uses : goal.returns-clause-uses
returns-clause-uses g c = λ rest ne. c.in_ok-advanced.ensures.uses (rw c.deref_mut.ensures.value rest) ne

pub returns-clause-wires : goal.returns-clause-wires
returns-clause-wires g c = ap wires_in (written c.args.self.now.links.len c.advance_at.new.links (drop (length c.advance_at.new.links) c.args.self.now.links.items) (c.args.self.now.links.ok.0 ∙ ap length (sym c.deref_mut-2.ensures.value) ∙ sym c.advance_at.auto.links)) ∙ c.advance_at.ensures.wires ∙ ap wires_in c.deref_mut-2.ensures.value
