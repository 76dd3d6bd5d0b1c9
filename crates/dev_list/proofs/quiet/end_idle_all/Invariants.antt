use Rattle.std.proofs.Common.{◌≡◌, true, map, take}
use Rattle.std.specs.List.{list_all}
use Rattle.dev_face.specs.Calls.{dev_end_idle}
use Rattle.dev_list.proofs.quiet.end_idle_all.Given as goal

abbrev pub invariant-loop-device : goal.invariant-loop-device
invariant-loop-device g l = list_all dev_end_idle (take l.device-index (map g.D.Device.state l.devices)) ≡ true
