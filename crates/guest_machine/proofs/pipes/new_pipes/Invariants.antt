use Rattle.std.proofs.Common.{◌≡◌, All, map, take}
use Rattle.std.specs.Prelude.{option_map}
use Rattle.link_pipe.specs.PipeStates.{new_pipe}
use Rattle.dev_list.specs.Sending.{pipe_states, MayCall}
use Rattle.guest_machine.proofs.pipes.new_pipes.Given as goal

abbrev pub invariant-loop-nic : goal.invariant-loop-nic
invariant-loop-nic l = record {
  states : pipe_states l.pipes.items ≡ map (option_map new_pipe) (take l.nic l.params);
  may_call : All (MayCall 0) l.pipes.items;
}
