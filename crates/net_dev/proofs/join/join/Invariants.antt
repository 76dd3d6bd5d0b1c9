use Rattle.net_dev.proofs.Joining.{Along}
use Rattle.net_dev.proofs.join.join.Given as goal

abbrev pub invariant-loop-frame : goal.invariant-loop-frame
invariant-loop-frame l = Along l.now l.nic l.fn.backlog.items l.backlog.items l.yielded l.fn.log.items l.log.items
