use Rattle.std.proofs.Common.{◌≡◌, ℕ, ◌<◌, ◌++◌, List, length, get_or, Some, sym, ap, ◌∙◌, rules}
use Rattle.std.specs.Prelude.{Option, option_map}
use Rattle.dev_face.specs.Calls.{dev_end}
use Rattle.link_pipe.specs.PipeStates.{state_of}
use Rattle.dev_list.specs.Sending.{pipe_states, pipes_after, NoneLeaves}
use Rattle.dev_list.proofs.Listed.{holds_there, holds_after}
use Rattle.dev_list.proofs.Sent.{pipes_set}
use Rattle.dev_list.proofs.ticks.end_one.Goals as goal

pub send_all-requires-clause-may_call : goal.send_all-requires-clause-may_call
send_all-requires-clause-may_call g c =
    let lt : c.in-Some.nic < length c.args.pipes.now = search rules in
    c.requires.may_call c.in-Some.nic c.index-pipes-nic.result lt

pub send_all-requires-clause-none_leaves : goal.send_all-requires-clause-none_leaves
send_all-requires-clause-none_leaves g c =
    let lt : c.in-Some.nic < length c.args.pipes.now = search rules in
    holds_there (option_map state_of) (NoneLeaves c.args.now) c.args.pipes.now c.in-Some.nic _ lt (ap (get_or c.args.pipes.now c.in-Some.nic) c.index-pipes-nic.is) c.requires.none_leaves

pub returns-in_ok-send_all-in-Some-clause-pipes : goal.returns-in_ok-send_all-in-Some-clause-pipes
returns-in_ok-send_all-in-Some-clause-pipes g c =
    let pipes = c.args.pipes.now in
    let nic = c.in-Some.nic in
    let lt : nic < length pipes = search rules in
    let at = ap (get_or pipes nic) c.index-pipes-nic.is in
    let gave : List (List ℕ) = (dev_end (g.D.Device.state c.args.device.now) c.args.now c.args.ram.now).frames in
    let frames : c.into_vec.result.items ≡ gave = c.into_vec.ensures ∙ c.in_ok-end_tick.ensures.frames ∙ ap (λ (fs : List (List ℕ)). fs ++ gave) c.new-frames.ensures in
    pipes_set c.args.now nic pipes _ c.send_all.new.pipe c.into_vec.result.items lt at c.in_ok-send_all-in-Some.ensures.pipe
    ∙ ap (pipes_after c.args.now (pipe_states pipes) (Some nic)) frames ∙ ap (λ (o : Option ℕ). pipes_after c.args.now (pipe_states pipes) o gave) (sym c.in-Some.is)

pub returns-in_ok-send_all-in-Some-clause-none_leaves : goal.returns-in_ok-send_all-in-Some-clause-none_leaves
returns-in_ok-send_all-in-Some-clause-none_leaves g c =
    holds_after (option_map state_of) (NoneLeaves c.args.now) c.args.pipes.now c.in-Some.nic c.send_all.new.pipe c.requires.none_leaves c.in_ok-send_all-in-Some.ensures.none_leaves
