use Rattle.std.proofs.Common.{◌≡◌, refl, sym, ◌∙◌, ap, subst, map, length, slice_get, false}
use Rattle.std.proofs.Math.ListN.{length-map}
use Rattle.lookahead_core.specs.Links.{wires_in}
use Rattle.lookahead_core.specs.Opening.{fresh}
use Rattle.lookahead_core.specs.Seats.{begun_at}
use Rattle.lookahead_core.specs.Ways.{AllWays}
use Rattle.lookahead_core.proofs.Booleans.{true_false}
use Rattle.lookahead_core.proofs.Opens.{opens, opens_some, opens_wired, zero_of, idle_of, wires_opened, rate_of_fresh}
use Rattle.lookahead_core.proofs.Tells.{stands_for}
use Rattle.lookahead_core.proofs.node_core.Core.build.Goals as goal

pub links_of-requires : goal.links_of-requires
links_of-requires g c = λ k d lt. let join = c.requires.wires k d lt in (join.later, join.near)

pub invariant_of-result : goal.invariant_of-result
invariant_of-result g c = record {
  wired = rw (c.in_ok-seats.ensures, c.in_ok-links.ensures)
      (opens_wired g.N.Node.motion g.N.Node.state g.N.Node.clock c.args.nodes.items c.args.wires.now c.requires.idle c.requires.wires c.requires.once_from (rw c.deref.ensures.value at c.have_rates.ensures));
  listed = rw c.in_ok-seats.ensures (subst (AllWays (length (map fresh c.args.nodes.items)) c.in_ok-ways.ways.items) (sym (ap wires_in c.in_ok-links.ensures ∙ wires_opened c.args.wires.now))
      (subst (λ n. AllWays n c.in_ok-ways.ways.items c.args.wires.now) (sym (length-map c.args.nodes.items fresh)) (subst (λ n. AllWays n c.in_ok-ways.ways.items c.args.wires.now) (c.len.ensures ∙ c.args.nodes.ok.0) c.in_ok-ways.ensures)));
  stands = λ _. rw (c.in_ok-seats.ensures, c.in_ok-links.ensures)
      (opens_some g.N.Node.motion g.N.Node.state g.N.Node.clock c.args.nodes.items c.args.wires.now c.requires.idle c.requires.wires c.requires.once_from (rw c.deref.ensures.value at c.have_rates.ensures) c.requires.count.0);
}

pub returns-clause-stands : goal.returns-clause-stands
returns-clause-stands g c = λ x open'. stands_for x _ (rw (c.in_ok-seats.ensures, c.in_ok-links.ensures)
    (opens g.N.Node.motion g.N.Node.state g.N.Node.clock c.args.nodes.items c.args.wires.now c.requires.idle c.requires.wires c.requires.once_from (rw c.deref.ensures.value at c.have_rates.ensures) x open'))

pub returns-clause-rests : goal.returns-clause-rests
returns-clause-rests g c = λ i on seat here. let idle : begun_at (slice_get c.in_ok-seats.seats.items i) ≡ false = rw c.in_ok-seats.ensures (idle_of c.args.nodes.items i) in true_false on idle

pub returns-clause-rates : goal.returns-clause-rates
returns-clause-rates g c = λ i node here. rw c.in_ok-seats.ensures (rate_of_fresh g.N.Node.motion g.N.Node.state c.args.nodes.items i node here)

pub returns-clause-wires : goal.returns-clause-wires
returns-clause-wires g c = ap wires_in c.in_ok-links.ensures ∙ wires_opened c.args.wires.now

pub returns-clause-done : goal.returns-clause-done
returns-clause-done g c = λ i. rw c.in_ok-seats.ensures (zero_of (λ s. s.done) (λ _. refl) c.args.nodes.items i)

pub returns-clause-idle : goal.returns-clause-idle
returns-clause-idle g c = λ i. rw c.in_ok-seats.ensures (idle_of c.args.nodes.items i)
