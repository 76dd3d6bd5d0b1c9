use Rattle.std.proofs.Common.{◌≡◌, ◌++◌, ◌+◌, ◌<◌, ◌≤◌, ◌≢◌, ℕ, List, take, drop, length, ◌∙◌, sym, ap, subst, arith}
use Rattle.std.proofs.Math.Seq.{take-append_seam}
use Rattle.std.proofs.Props.{props}
use Rattle.std.proofs.Math.Logic.{∥∥₁_elim}
use Rattle.lookahead_core.specs.Events.{Progress}
use Rattle.lookahead_core.specs.Links.{wires_in}
use Rattle.lookahead_core.specs.Seats.{done_of}
use Rattle.lookahead_core.specs.Ways.{AllWays}
use Rattle.lookahead_core.proofs.Found.{still}
use Rattle.lookahead_core.proofs.Same.{same_core}
use Rattle.lookahead_core.proofs.Seats.{read_same}
use Rattle.lookahead_core.proofs.Tells.{goes_on}
use Rattle.lookahead_core.proofs.node_core.Core.skip.Goals as goal

positive : (n : ℕ) → n ≢ 0 → 1 ≤ n
positive n ne = grind arith

pub ticks_at-ticks-requires-clause-stands : goal.ticks_at-ticks-requires-clause-stands
ticks_at-ticks-requires-clause-stands g c = rw (c.deref.ensures.value, c.deref-2.ensures.value) (c.args.self.now.stands c.requires.going)

pub returns-then-ticks-eq0-clause-nothing : goal.returns-then-ticks-eq0-clause-nothing
returns-then-ticks-eq0-clause-nothing g c = λ _. same_core c.args.self.now _ _ _

-- what was written through the slice of a vector
written : {A : Type 0} (n : ℕ) (new rest : List A) → n ≡ length new → take n (new ++ rest) ≡ new
written n new rest e = rw e (take-append_seam new rest)

pub skip_at-requires-clause-quiet : goal.skip_at-requires-clause-quiet
skip_at-requires-clause-quiet g c = λ seat here. c.ticks_at-ticks.ensures.quiet (positive c.ticks_at-ticks.result c.if-ticks-eq0.false) seat (rw c.deref.ensures.value (rw c.deref_mut.ensures.value at here))

pub invariant_of-self-2 : goal.invariant_of-self-2
invariant_of-self-2 g c = record {
  wired = rw (written c.args.self.now.seats.len c.skip_at.new.seats (drop (length c.skip_at.new.seats) c.args.self.now.seats.items) (c.args.self.now.seats.ok.0 ∙ ap length (sym c.deref_mut.ensures.value) ∙ sym c.skip_at.auto.seats)) (c.skip_at.ensures.wired c.args.self.now.links.items (rw c.deref_mut.ensures.value c.args.self.now.wired));
  listed = rw (written c.args.self.now.seats.len c.skip_at.new.seats (drop (length c.skip_at.new.seats) c.args.self.now.seats.items) (c.args.self.now.seats.ok.0 ∙ ap length (sym c.deref_mut.ensures.value) ∙ sym c.skip_at.auto.seats)) (subst (λ n. AllWays n c.args.self.now.ways.items (wires_in c.args.self.now.links.items)) (ap length (sym c.deref_mut.ensures.value) ∙ sym c.skip_at.auto.seats) c.args.self.now.listed);
  stands = λ _. rw (written c.args.self.now.seats.len c.skip_at.new.seats (drop (length c.skip_at.new.seats) c.args.self.now.seats.items) (c.args.self.now.seats.ok.0 ∙ ap length (sym c.deref_mut.ensures.value) ∙ sym c.skip_at.auto.seats))
      (still g.N.Node.motion g.N.Node.state g.N.Node.clock c.args.self.now.seats.items c.args.self.now.links.items (c.args.self.now.stands c.requires.going) c.args.who c.ticks_at-ticks.result c.skip_at.new.seats c.args.self.now.links.items
      (λ x st. (rw (← c.deref_mut.ensures.value) (c.skip_at.ensures.progress x c.args.self.now.links.items (rw c.deref_mut.ensures.value st) (rw (c.deref_mut.ensures.value) (rw (c.deref.ensures.value, c.deref-2.ensures.value) at (c.ticks_at-ticks.ensures.lines (positive c.ticks_at-ticks.result c.if-ticks-eq0.false))))))));
}

pub returns-clause-progress : goal.returns-clause-progress
returns-clause-progress g c = λ x st. goes_on x c.args.who c.ticks_at-ticks.result c.args.self.now _ (rw (written c.args.self.now.seats.len c.skip_at.new.seats (drop (length c.skip_at.new.seats) c.args.self.now.seats.items) (c.args.self.now.seats.ok.0 ∙ ap length (sym c.deref_mut.ensures.value) ∙ sym c.skip_at.auto.seats)) (rw (← c.deref_mut.ensures.value) (c.skip_at.ensures.progress x c.args.self.now.links.items (rw c.deref_mut.ensures.value st.stands) (rw (c.deref_mut.ensures.value) (rw (c.deref.ensures.value, c.deref-2.ensures.value) at (c.ticks_at-ticks.ensures.lines (positive c.ticks_at-ticks.result c.if-ticks-eq0.false)))))))

pub returns-clause-idle : goal.returns-clause-idle
returns-clause-idle g c = λ x st t le lt.
    let done : done_of c.skip_at.new.seats c.args.who ≡ done_of c.args.self.now.seats.items c.args.who + c.ticks_at-ticks.result = rw c.deref_mut.ensures.value at c.skip_at.ensures.done in
    let lt' : t < done_of c.skip_at.new.seats c.args.who = rw (written c.args.self.now.seats.len c.skip_at.new.seats (drop (length c.skip_at.new.seats) c.args.self.now.seats.items) (c.args.self.now.seats.ok.0 ∙ ap length (sym c.deref_mut.ensures.value) ∙ sym c.skip_at.auto.seats)) at lt in
    c.skip_at.ensures.idle x c.args.self.now.links.items (rw c.deref_mut.ensures.value st.stands) (rw (c.deref_mut.ensures.value) (rw (c.deref.ensures.value, c.deref-2.ensures.value) at (c.ticks_at-ticks.ensures.lines (positive c.ticks_at-ticks.result c.if-ticks-eq0.false)))) t (rw c.deref_mut.ensures.value le) (rw c.deref_mut.ensures.value (omega (arith, done, lt')))

pub returns-clause-others : goal.returns-clause-others
returns-clause-others g c = λ i ne. ∥∥₁_elim (c.args.self.now.stands c.requires.going) (hlevel props) (λ w.
    let p : Progress g.N.Node.motion g.N.Node.state g.N.Node.clock w.0 c.args.who c.ticks_at-ticks.result c.args.self.now.seats.items c.skip_at.new.seats c.args.self.now.links.items =
    (rw (← c.deref_mut.ensures.value) (c.skip_at.ensures.progress w.0 c.args.self.now.links.items (rw c.deref_mut.ensures.value w.1) (rw (c.deref_mut.ensures.value) (rw (c.deref.ensures.value, c.deref-2.ensures.value) at (c.ticks_at-ticks.ensures.lines (positive c.ticks_at-ticks.result c.if-ticks-eq0.false)))))) in
    rw (written c.args.self.now.seats.len c.skip_at.new.seats (drop (length c.skip_at.new.seats) c.args.self.now.seats.items) (c.args.self.now.seats.ok.0 ∙ ap length (sym c.deref_mut.ensures.value) ∙ sym c.skip_at.auto.seats)) (read_same (λ s. s.done) c.skip_at.new.seats c.args.self.now.seats.items i (p.others i ne)))

pub returns-clause-rests : goal.returns-clause-rests
returns-clause-rests g c = λ rest. rw (written c.args.self.now.seats.len c.skip_at.new.seats (drop (length c.skip_at.new.seats) c.args.self.now.seats.items) (c.args.self.now.seats.ok.0 ∙ ap length (sym c.deref_mut.ensures.value) ∙ sym c.skip_at.auto.seats)) (c.skip_at.ensures.rests (rw c.deref_mut.ensures.value rest))
