use Rattle.std.proofs.Common.{[], map}
use Rattle.dev_list.proofs.Skipped.{skip_one}
use Rattle.dev_list.proofs.Walking.{Along}
use Rattle.dev_list.proofs.quiet.skip_all.Given as goal

abbrev pub invariant-loop-i : goal.invariant-loop-i
invariant-loop-i g l = Along (skip_one l.tick) (map g.D.Device.state l.fn.devices) (map g.D.Device.state l.devices) l.i [] [] [] []
