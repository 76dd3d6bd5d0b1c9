use Rattle.std.proofs.Common.{◌≡◌, ◌++◌}
use Rattle.std.specs.Prelude.{option_map}
use Rattle.link_pipe.specs.PipeStates.{state_of}
use Rattle.dev_list.specs.Sending.{offer_all, offer_recs, NoneLeaves, MayCall}
use Rattle.dev_list.proofs.sending.send_all.Given as goal

abbrev pub invariant-loop-frame : goal.invariant-loop-frame
invariant-loop-frame l = record {
  pipe : option_map state_of l.pipe ≡ offer_all l.now (option_map state_of l.fn.pipe) l.yielded;
  recs : l.log.items ≡ l.fn.log.items ++ offer_recs l.now l.nic (option_map state_of l.fn.pipe) l.yielded;
  may_call : MayCall l.now l.pipe;
  none_leaves : NoneLeaves l.now (option_map state_of l.pipe);
}
