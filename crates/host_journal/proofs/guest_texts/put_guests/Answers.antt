use Rattle.std.proofs.Common.{◌∙◌, ◌<◌, ℕ, List, Some, length, sym, ap, arith}
use Rattle.std.proofs.lemmas.Option.{slice_get-get_or}
use Rattle.host_journal.specs.Guests.{guest_text}
use Rattle.host_journal.proofs.GuestLemmas.{name_is, text_added, text_cut}
use Rattle.host_journal.proofs.guest_texts.put_guests.Goals as goal

pub returns-in_err-put-clause-adds : goal.returns-in_err-put-clause-adds
returns-in_err-put-clause-adds g c = λ recs holds.
    let within : c.loop-i.i < length c.args.names.now = omega arith in
    let there : c.loop-i.i < length c.args.held.now = omega (arith, c.requires.each) in
    let name = c.as_slice.ensures.bytes ∙ name_is c.args.names.now c.loop-i.i c.index-names-i.result within c.index-names-i.is in
    let has = holds c.loop-i.i c.index-held-i.result (slice_get-get_or c.args.held.now c.loop-i.i _ there ∙ ap Some (sym c.index-held-i.is)) in
    text_cut c.args.failed.now c.loop-i.failed c.put.new.failed (g.O.Sink.taken c.args.out.now) (g.O.Sink.taken c.loop-i.out) (g.O.Sink.taken c.put.new.out)
    (guest_text g.H.Held.shown c.args.names.now recs) c.loop-i.i (length c.args.names.now) (g.H.Held.shown c.loop-i.i c.as_slice.result.now (recs c.loop-i.i))
    (ap (λ (x : List ℕ). g.H.Held.shown c.loop-i.i x (recs c.loop-i.i)) name)
    within c.in_err-put.ensures.err (c.loop-i.invariant.adds recs holds) (c.in_err-put.ensures.adds (recs c.loop-i.i) has)

pub loop-i-preserved : goal.loop-i-preserved
loop-i-preserved g c =
    let within : c.loop-i.i < length c.args.names.now = omega arith in
    let there : c.loop-i.i < length c.args.held.now = omega (arith, c.requires.each) in
    let name = c.as_slice.ensures.bytes ∙ name_is c.args.names.now c.loop-i.i c.index-names-i.result within c.index-names-i.is in
    record {
      adds = λ recs holds.
          let has = holds c.loop-i.i c.index-held-i.result (slice_get-get_or c.args.held.now c.loop-i.i _ there ∙ ap Some (sym c.index-held-i.is)) in
          text_added c.args.failed.now c.loop-i.failed c.put.new.failed (g.O.Sink.taken c.args.out.now) (g.O.Sink.taken c.loop-i.out) (g.O.Sink.taken c.put.new.out)
          (guest_text g.H.Held.shown c.args.names.now recs) c.loop-i.i (g.H.Held.shown c.loop-i.i c.as_slice.result.now (recs c.loop-i.i))
          (ap (λ (x : List ℕ). g.H.Held.shown c.loop-i.i x (recs c.loop-i.i)) name)
          (c.loop-i.invariant.adds recs holds) (c.in_ok-put.ensures.adds (recs c.loop-i.i) has);
      going = λ e. c.in_ok-put.ensures.ok (c.loop-i.invariant.going e);
      unfailed = c.in_ok-put.ensures.cause.ok ∙ c.loop-i.invariant.unfailed;
    }
