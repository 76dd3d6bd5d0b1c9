use Rattle.std.proofs.Common.{rules}
use Rattle.dev_face.specs.States.{IsSetUp}
use Rattle.dev_list.proofs.Listed.{holds_there}
use Rattle.dev_list.proofs.Skipped.{least_none, least_more}
use Rattle.dev_list.proofs.quiet.least_due.Goals as goal

pub loop-device-init : goal.loop-device-init
loop-device-init g c = least_none c.args.limit

pub next_due-requires : goal.next_due-requires
next_due-requires g c = holds_there g.D.Device.state IsSetUp c.args.devices.now c.loop-device.device-index c.device-item.result (search rules) c.device-item.is c.requires

pub loop-device-preserved : goal.loop-device-preserved
loop-device-preserved g c =
    least_more g.D.Device.state c.args.devices.now c.loop-device.device-index c.args.limit c.loop-device.least c.least_of-least.result c.device-item.result c.next_due.result
    (search rules) c.device-item.is c.loop-device.invariant c.next_due.ensures c.least_of-least.ensures
