use Rattle.std.proofs.Common.{rules, arith, ◌∙◌}
use Rattle.host_journal.proofs.StandingLemmas.{shown_cut, shown_added}
use Rattle.host_journal.proofs.put.put_shown.Goals as goal

pub returns-in_err-put_if_shown-clause-adds : goal.returns-in_err-put_if_shown-clause-adds
returns-in_err-put_if_shown-clause-adds g c =
    shown_cut c.args.failed.now c.loop-rec.failed c.put_if_shown.new.failed (g.O.Sink.taken c.args.out.now) (g.O.Sink.taken c.loop-rec.out) (g.O.Sink.taken c.put_if_shown.new.out) c.args.view c.args.guest c.args.recs.now
    c.loop-rec.rec-index c.rec-item.result (omega arith) (search rules) c.in_err-put_if_shown.ensures.err c.loop-rec.invariant.adds c.in_err-put_if_shown.ensures.adds

pub loop-rec-preserved : goal.loop-rec-preserved
loop-rec-preserved g c = record {
  adds =
      shown_added c.args.failed.now c.loop-rec.failed c.put_if_shown.new.failed (g.O.Sink.taken c.args.out.now) (g.O.Sink.taken c.loop-rec.out) (g.O.Sink.taken c.put_if_shown.new.out) c.args.view c.args.guest c.args.recs.now
      c.loop-rec.rec-index c.rec-item.result (omega arith) (search rules) c.loop-rec.invariant.adds c.in_ok-put_if_shown.ensures.adds;
  going = λ e. c.in_ok-put_if_shown.ensures.ok (c.loop-rec.invariant.going e);
  stopped = λ e. c.in_ok-put_if_shown.ensures.stopped (c.loop-rec.invariant.stays e) ∙ c.loop-rec.invariant.stopped e;
  unfailed = c.in_ok-put_if_shown.ensures.cause.ok ∙ c.loop-rec.invariant.unfailed;
  stays = λ e. c.in_ok-put_if_shown.ensures.stays (c.loop-rec.invariant.stays e);
}
