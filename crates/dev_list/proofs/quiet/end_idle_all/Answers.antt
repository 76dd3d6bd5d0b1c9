use Rattle.std.proofs.Common.{rules, ◌≡◌, true, false, sym, ◌∙◌}
use Rattle.dev_face.specs.States.{IsSetUp}
use Rattle.dev_list.proofs.Listed.{holds_there}
use Rattle.dev_list.proofs.Skipped.{idle_more, idle_not}
use Rattle.dev_list.proofs.quiet.end_idle_all.Goals as goal

pub end_idle-requires : goal.end_idle-requires
end_idle-requires g c = holds_there g.D.Device.state IsSetUp c.args.devices.now c.loop-device.device-index c.device-item.result (search rules) c.device-item.is c.requires

pub loop-device-preserved : goal.loop-device-preserved
loop-device-preserved g c =
    idle_more g.D.Device.state c.args.devices.now c.loop-device.device-index c.device-item.result (search rules) c.device-item.is c.loop-device.invariant
    (sym c.end_idle.ensures ∙ (let idle : c.end_idle.result ≡ true = search rules in idle))

pub returns-then-not-end_idle : goal.returns-then-not-end_idle
returns-then-not-end_idle g c =
    sym (idle_not g.D.Device.state c.args.devices.now c.loop-device.device-index c.device-item.result (search rules) c.device-item.is
    (sym c.end_idle.ensures ∙ (let busy : c.end_idle.result ≡ false = search rules in busy)))
