use Rattle.std.proofs.Common.{◌≡◌, map, take}
use Rattle.dev_list.specs.Walks.{least_due}
use Rattle.dev_list.proofs.quiet.least_due.Given as goal

abbrev pub invariant-loop-device : goal.invariant-loop-device
invariant-loop-device g l = l.least ≡ least_due l.limit (take l.device-index (map g.D.Device.state l.devices))
