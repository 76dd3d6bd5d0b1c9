use Rattle.std.proofs.Common.{◌≡◌, take}
use Rattle.dev_list.specs.Sending.{pipe_states, least_leaving}
use Rattle.dev_list.proofs.quiet.least_leaving.Given as goal

abbrev pub invariant-loop-pipe : goal.invariant-loop-pipe
invariant-loop-pipe l = l.least ≡ least_leaving l.limit (take l.pipe-index (pipe_states l.pipes))
