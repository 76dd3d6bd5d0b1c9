-- The devices and the pipes of a guest are those of a machine with its disks and nics.
use Rattle.std.proofs.Common.{◌+◌, ◌++◌, List, All, IfSome, Option, length, map, refl, ap, sym, ◌∙◌, subst, arith}
use Rattle.dev_face.specs.States.{DevState, IsComing, IsInLimits, kind_of, opening as opened}
use Rattle.dev_face.specs.declared.config.DevConfig.{DevConfig}
use Rattle.guest_machine.specs.Opening.{opening}
use Rattle.link_pipe.specs.Piped.{InLimits}
use Rattle.link_pipe.specs.declared.pipe_params.PipeParams.{PipeParams}
use Rattle.bench_build.specs.Stocks.{counts, items_of}
use Rattle.bench_build.specs.Takings.{number_for, with_base, with_nics}
use Rattle.bench_build.proofs.GuestNics.{nic_limits, nics_behind}
use Rattle.bench_build.proofs.LinkWires.{pipes_count, pipes_in_limits}
use Rattle.bench_build.proofs.Opened.{all_coming, machine_has}
use Rattle.bench_build.proofs.Standing.{ok_then, on_ok}
use Rattle.bench_build.proofs.machines.machine_for.Goals as goal

pub devices_for-requires-clause-nics : goal.devices_for-requires-clause-nics
devices_for-requires-clause-nics g c =
    subst (All IsInLimits) (sym (c.deref.ensures.value ∙ c.in_ok-nics.ensures))
    (nic_limits c.args.guest (length c.args.disks.now) c.args.spec.now.nics c.requires.guest c.requires.disks.few c.requires.spec.nics)

pub devices_for-requires-clause-enough : goal.devices_for-requires-clause-enough
devices_for-requires-clause-enough g c = λ k.
    let disks = c.args.disks.now in
    let own = nics_behind c.args.guest c.args.spec.now.nics (length disks) disks c.deref.result.now (c.deref.ensures.value ∙ c.in_ok-nics.ensures) refl in
    let same = ap (λ (cs : List DevConfig). number_for k (with_base cs)) own in
    omega (arith, same, c.requires.enough k)

pub build-requires-clause-few : goal.build-requires-clause-few
build-requires-clause-few g c = (c.requires.disks.few, c.requires.spec.nics)

pub build-requires-clause-pipes : goal.build-requires-clause-pipes
build-requires-clause-pipes g c = ap length c.in_ok-pipes.ensures ∙ pipes_count c.args.links.now c.args.guest c.args.spec.now.nics

pub build-requires-clause-limits : goal.build-requires-clause-limits
build-requires-clause-limits g c =
    let each = pipes_in_limits c.args.links.now c.args.guest c.args.spec.now.nics c.requires.links in
    subst (All (λ p. IfSome p InLimits)) (sym c.in_ok-pipes.ensures) each

pub build-requires-clause-kinds : goal.build-requires-clause-kinds
build-requires-clause-kinds g c =
    let own = nics_behind c.args.guest c.args.spec.now.nics (length c.args.disks.now) c.args.disks.now c.deref.result.now (c.deref.ensures.value ∙ c.in_ok-nics.ensures) refl in
    ap (map kind_of) (c.in_ok-devices.ensures.opened ∙ ap (λ (cs : List DevConfig). map opened (with_base cs)) own)
    ∙ machine_has c.args.guest c.args.spec.now.nics c.args.disks.now c.requires.disks

pub build-requires-clause-coming : goal.build-requires-clause-coming
build-requires-clause-coming g c =
    let configs = c.args.disks.now ++ c.deref.result.now in
    subst (All (IsComing 0 (length c.args.loaded.ram))) (sym c.in_ok-devices.ensures.opened) (all_coming (length c.args.loaded.ram) (with_base configs))

pub returns-clause-taken : goal.returns-clause-taken
returns-clause-taken g c =
    let own = nics_behind c.args.guest c.args.spec.now.nics (length c.args.disks.now) c.args.disks.now c.deref.result.now (c.deref.ensures.value ∙ c.in_ok-nics.ensures) refl in
    on_ok c.build.result (λ k. ap (λ (cs : List DevConfig). counts (items_of c.devices_for.new.stock) k + number_for k (with_base cs)) (sym own) ∙ c.in_ok-devices.ensures.taken k)

pub returns-clause-state : goal.returns-clause-state
returns-clause-state g c =
    let own = nics_behind c.args.guest c.args.spec.now.nics (length c.args.disks.now) c.args.disks.now c.deref.result.now (c.deref.ensures.value ∙ c.in_ok-nics.ensures) refl in
    let opens = λ (ds : List DevState) (ps : List (Option PipeParams)). opening c.args.spec.now.rate c.args.loaded.entry c.args.loaded.ram ds ps in
    let devices = c.in_ok-devices.ensures.opened ∙ ap (λ (cs : List DevConfig). map opened (with_base cs)) own in
    ok_then c.build.result c.build.ensures.state (λ m made.
    made
    ∙ ap (λ (ds : List DevState). opens ds c.in_ok-pipes.pipes.items) devices
    ∙ ap (opens (map opened (with_base (with_nics c.args.guest c.args.spec.now.nics c.args.disks.now)))) c.in_ok-pipes.ensures)
