use Rattle.std.proofs.Common.{◌≡◌, ℕ, ◌<◌, ◌+◌, ◌++◌, All, List, length, length-set, get_or, refl, sym, ap, ◌∙◌, subst, arith, rules}
use Rattle.std.specs.Prelude.{Option, option_map}
use Rattle.std.proofs.lemmas.List.{length-map}
use Rattle.std.proofs.lemmas.List.Elements.{All-set}
use Rattle.link_pipe.specs.Piped.{Piped}
use Rattle.link_pipe.specs.PipeStates.{state_of}
use Rattle.dev_list.specs.Sending.{pipe_states, left_by, NoneLeaves, MayCall}
use Rattle.dev_list.proofs.Listed.{holds_there}
use Rattle.dev_list.proofs.Sent.{joined_none, call_later, still_after, ended_more, left_step, ended_end, left_end, later_ended}
use Rattle.dev_list.proofs.sending.give_up_all.Goals as goal

pub loop-nic-init : goal.loop-nic-init
loop-nic-init c = record {
  states = refl;
  still = λ k d le. refl;
  called = call_later c.args.now c.args.pipes.now c.requires.may_call;
  count = refl;
  left = sym (joined_none c.args.left.now);
}

pub give_up-requires-clause-may_call : goal.give_up-requires-clause-may_call
give_up-requires-clause-may_call c =
    let lt : c.loop-nic.nic < length c.args.pipes.now = search rules in
    subst (MayCall c.args.now) (sym (c.loop-nic.invariant.still c.loop-nic.nic c.index-pipes-nic.result (omega arith))) (c.requires.may_call c.loop-nic.nic c.index-pipes-nic.result lt)

pub give_up-requires-clause-none_leaves : goal.give_up-requires-clause-none_leaves
give_up-requires-clause-none_leaves c =
    let lt : c.loop-nic.nic < length c.args.pipes.now = search rules in
    let same = c.loop-nic.invariant.still c.loop-nic.nic c.index-pipes-nic.result (omega arith) in
    subst (λ (p : Option Piped). NoneLeaves c.args.now (option_map state_of p)) (sym same)
    (holds_there (option_map state_of) (NoneLeaves c.args.now) c.args.pipes.now c.loop-nic.nic _ lt (ap (get_or c.args.pipes.now c.loop-nic.nic) (c.index-pipes-nic.is ∙ same)) c.requires.none_leaves)

pub loop-nic-preserved : goal.loop-nic-preserved
loop-nic-preserved c =
    let inv = c.loop-nic.invariant in
    let at = ap (get_or c.loop-nic.pipes c.loop-nic.nic) c.index-pipes-nic.is in
    let lt : c.loop-nic.nic < length c.loop-nic.pipes = search rules in
    let len : length c.loop-nic.pipes ≡ length c.args.pipes.now = search rules in
    let lt2 : c.loop-nic.nic < length c.args.left.now = omega (arith, lt, len, c.requires.lists) in
    let e = c.in_ok-give_up.ensures in
    let was : Option Piped = get_or c.loop-nic.pipes c.loop-nic.nic c.index-pipes-nic.result in
    record {
      states = ended_more c.args.now c.args.pipes.now c.loop-nic.pipes c.loop-nic.nic _ lt len at inv.states c.give_up.new.pipe e.pipe;
      still = still_after c.args.pipes.now c.loop-nic.pipes c.loop-nic.nic c.give_up.new.pipe inv.still;
      called = All-set (MayCall (c.args.now + 1)) c.loop-nic.pipes c.loop-nic.nic c.give_up.new.pipe e.may_call inv.called;
      count = length-set c.loop-nic.left c.loop-nic.nic c.give_up.new.left.items ∙ inv.count;
      left = left_step c.args.now c.args.pipes.now c.loop-nic.pipes c.loop-nic.nic was lt len at inv.states c.loop-nic.left c.args.left.now c.give_up.new.left.items lt2 inv.left
          (e.left ∙ ap (λ (fs : List (List ℕ)). fs ++ left_by c.args.now (option_map state_of was)) c.list.ensures.value);
    }

pub returns-in_err-give_up-clause-may_call : goal.returns-in_err-give_up-clause-may_call
returns-in_err-give_up-clause-may_call c = All-set (MayCall (c.args.now + 1)) c.loop-nic.pipes c.loop-nic.nic c.give_up.new.pipe c.give_up.ensures.may_call c.loop-nic.invariant.called

pub returns-clause-pipes : goal.returns-clause-pipes
returns-clause-pipes c = ended_end c.args.now c.loop-nic.nic (pipe_states c.args.pipes.now) (pipe_states c.loop-nic.pipes) (search (rules, length-map)) c.loop-nic.invariant.states

pub returns-clause-left : goal.returns-clause-left
returns-clause-left c = left_end c.args.now c.loop-nic.nic c.loop-nic.left c.args.left.now (pipe_states c.args.pipes.now) (search (rules, length-map)) c.loop-nic.invariant.left

pub returns-clause-none_leaves : goal.returns-clause-none_leaves
returns-clause-none_leaves c = subst (All (NoneLeaves (c.args.now + 1))) (sym (returns-clause-pipes c)) (later_ended c.args.now (pipe_states c.args.pipes.now))
