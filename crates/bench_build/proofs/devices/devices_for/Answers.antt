-- What is taken for the disks and then for the nics is what is taken for both.
use Rattle.std.proofs.Common.{[], ◌∷◌, ◌++◌, map, ap, ◌∙◌, arith}
use Rattle.dev_face.specs.States.{opening}
use Rattle.dev_face.specs.declared.config.DevConfig.TheVariants as config
use Rattle.bench_build.proofs.GuestsTake.{number_append}
use Rattle.bench_build.proofs.Opened.{opened_behind}
use Rattle.bench_build.proofs.devices.devices_for.Goals as goal

pub take_each-requires-2-clause-enough : goal.take_each-requires-2-clause-enough
take_each-requires-2-clause-enough g c = λ k.
    omega (arith, number_append k c.args.disks.now c.args.nics.now, c.requires.enough k, c.in_ok-take_each.ensures.taken k)

pub take_each-requires-3-clause-enough : goal.take_each-requires-3-clause-enough
take_each-requires-3-clause-enough g c = λ k.
    omega (arith, number_append k c.args.disks.now c.args.nics.now, c.requires.enough k, c.in_ok-take_each.ensures.taken k, c.in_ok-take_each-2.ensures.taken k)

pub returns-clause-taken : goal.returns-clause-taken
returns-clause-taken g c = λ k.
    omega (arith, number_append k c.args.disks.now c.args.nics.now, c.in_ok-take_each.ensures.taken k, c.in_ok-take_each-2.ensures.taken k, c.in_ok-take_each-3.ensures.taken k)

pub returns-clause-opened : goal.returns-clause-opened
returns-clause-opened g c =
    let state = g.D.Device.state in
    opened_behind (map state c.take_each.new.devices.items) (map state c.take_each-2.new.devices.items) (map state c.take_each-3.new.devices.items) c.args.disks.now c.args.nics.now
    (c.in_ok-take_each.ensures.opened ∙ ap (λ zs. map state zs ++ map opening (config.Clint ∷ config.Uart ∷ [])) c.new-devices.ensures.items)
    c.in_ok-take_each-2.ensures.opened c.in_ok-take_each-3.ensures.opened
