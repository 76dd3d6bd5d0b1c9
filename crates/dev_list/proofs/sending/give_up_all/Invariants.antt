use Rattle.std.proofs.Common.{◌≡◌, ℕ, ◌+◌, ◌≤◌, All, length, get_or, take}
use Rattle.std.specs.Prelude.{Option}
use Rattle.lookahead_core.specs.Lists.{joined}
use Rattle.link_pipe.specs.Piped.{Piped}
use Rattle.dev_list.specs.Sending.{pipe_states, pipes_left, MayCall}
use Rattle.dev_list.proofs.Sent.{GivenUp}
use Rattle.dev_list.proofs.sending.give_up_all.Given as goal

abbrev pub invariant-loop-nic : goal.invariant-loop-nic
invariant-loop-nic l = record {
  states : GivenUp l.now l.nic (pipe_states l.fn.pipes) (pipe_states l.pipes);
  still : (k : ℕ) (d : Option Piped) → l.nic ≤ k → get_or l.pipes k d ≡ get_or l.fn.pipes k d;
  called : All (MayCall (l.now + 1)) l.pipes;
  count : length l.left ≡ length l.fn.left;
  left : l.left ≡ joined l.fn.left (pipes_left l.now (take l.nic (pipe_states l.fn.pipes)));
}
