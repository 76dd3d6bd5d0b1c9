use Rattle.std.proofs.Common.{All, length, map, sym, subst, arith}
use Rattle.std.proofs.lemmas.List.{length-map}
use Rattle.dev_face.specs.States.{IsComing, kind_of}
use Rattle.dev_list.specs.Sending.{NoneLeaves}
use Rattle.guest_machine.specs.MemoryMap.{MapState}
use Rattle.guest_machine.proofs.DeviceKinds.{device_count, last_are_nics, new_none_leave, opened}
use Rattle.guest_machine.proofs.machine.Machine.build.Goals as goal

pub new-requires-clause-low : goal.new-requires-clause-low
new-requires-clause-low g c =
    let plan = c.args.plan.now in
    omega (arith, device_count (map g.D.Device.state c.args.devices.items) plan.disks plan.nics c.requires.kinds, length-map c.args.devices.items g.D.Device.state, c.requires.pipes)

pub new-requires-clause-high : goal.new-requires-clause-high
new-requires-clause-high g c =
    let plan = c.args.plan.now in
    omega (arith, device_count (map g.D.Device.state c.args.devices.items) plan.disks plan.nics c.requires.kinds, length-map c.args.devices.items g.D.Device.state, c.requires.few.0, c.requires.few.1)

pub new-requires-clause-nics : goal.new-requires-clause-nics
new-requires-clause-nics g c =
    let plan = c.args.plan.now in
    last_are_nics (map kind_of (map g.D.Device.state c.args.devices.items)) plan.disks plan.nics (length plan.pipes.items) c.requires.kinds c.requires.pipes

pub invariant_of-result-clause-waiting : goal.invariant_of-result-clause-waiting
invariant_of-result-clause-waiting g c _ =
    subst (λ (m : MapState). All (NoneLeaves m.tick) m.pipes) (sym c.in_ok-map.ensures) (new_none_leave 0 c.args.plan.now.pipes.items)

pub invariant_of-result-clause-coming : goal.invariant_of-result-clause-coming
invariant_of-result-clause-coming g c _ _ =
    subst (λ (m : MapState). All (IsComing m.tick (length m.ram)) m.devices) (sym c.in_ok-map.ensures) c.requires.coming

pub returns-clause-state : goal.returns-clause-state
returns-clause-state g c =
    let plan = c.args.plan.now in
    opened plan.rate plan.entry c.args.ram (map g.D.Device.state c.args.devices.items) plan.pipes.items c.new-2.result c.in_ok-map.map c.new-3.result.items c.new-2.ensures c.in_ok-map.ensures c.new-3.ensures
