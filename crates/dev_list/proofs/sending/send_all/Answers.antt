use Rattle.std.proofs.Common.{ap, sym, ◌∙◌}
use Rattle.std.specs.Prelude.{option_map, Option}
use Rattle.link_pipe.specs.PipeStates.{PipeState, state_of}
use Rattle.dev_list.specs.Sending.{offer_one}
use Rattle.dev_list.proofs.Sent.{offer_all_more, recs_more, front_of_more}
use Rattle.dev_list.proofs.sending.send_all.Goals as goal

pub loop-frame-preserved : goal.loop-frame-preserved
loop-frame-preserved c =
    let inv = c.loop-frame.invariant in
    let e = c.in_ok-what.ensures in
    record {
      pipe = e.pipe ∙ ap (λ (p : Option PipeState). offer_one c.args.now p c.in-Some.frame) inv.pipe ∙ sym (offer_all_more c.args.now (option_map state_of c.args.pipe.now) c.loop-frame.yielded c.in-Some.frame);
      recs = recs_more c.args.now c.args.nic _ _ c.loop-frame.yielded c.in-Some.frame c.in_ok-what.what _ c.loop-frame.log.items _ inv.recs inv.pipe e.told c.in_ok-push.ensures.ok;
      may_call = e.may_call;
      none_leaves = e.none_leaves;
    }

pub returns-clause-front : goal.returns-clause-front
returns-clause-front c = front_of_more c.args.log.now.items c.loop-frame.log.items _ c.loop-frame.invariant.recs
