-- The bench of the machines of the guests stands at the opening of the experiment.
use Rattle.std.proofs.Common.{◌≡◌, ℕ, ◌*◌, List, length, map, ap, ◌∙◌, arith}
use Rattle.std.specs.Prelude.{slice_index}
use Rattle.std.specs.List.{flat_map}
use Rattle.std.proofs.lemmas.List.{length-map}
use Rattle.lookahead_core.specs.CoreWords.{node_rate, node_count}
use Rattle.slot_sched.specs.BenchWords.{host_setup_of}
use Rattle.slot_sched.specs.Schedule.{sum_at}
use Rattle.guest_machine.specs.MachineView.{machine_state}
use Rattle.bench_build.specs.Setups.{setup, capacity_of, pipes_of, wires_of}
use Rattle.bench_build.proofs.Assembling.{devices_of, nics_are, rates_are, opening_is, host_setup_is}
use Rattle.bench_build.proofs.LinkWires.{once_from, once_to, wires_join}
use Rattle.bench_build.proofs.Loads.{capacities_in_range, fit_is}
use Rattle.bench_build.proofs.builder.Builder.finish.Goals as goal

pub build-requires-clause-wires : goal.build-requires-clause-wires
build-requires-clause-wires h c =
    let b = c.args.self in
    let e = b.experiment.now in
    let made : c.deref.result.now ≡ flat_map wires_of e.links.items =
    c.deref.ensures.value ∙ c.in-Ok-wires_for.ensures ∙ ap (flat_map wires_of) {x = c.as_slice.result.now} {y = e.links.items} c.as_slice.ensures in
    let ms = c.in-Ok.machines.items in
    wires_join machine_state ms e.guests.items e.links.items c.deref.result.now made b.well_formed.links (omega (arith, c.in-Ok.ensures.count, c.requires.images))
    (nics_are machine_state ms (devices_of e b.contents.items) e b.loaded.items c.in-Ok.ensures.states c.in-Ok.ensures.count c.requires.images)

pub build-requires-clause-once_from : goal.build-requires-clause-once_from
build-requires-clause-once_from h c =
    let b = c.args.self in
    let e = b.experiment.now in
    let made : c.deref.result.now ≡ flat_map wires_of e.links.items =
    c.deref.ensures.value ∙ c.in-Ok-wires_for.ensures ∙ ap (flat_map wires_of) {x = c.as_slice.result.now} {y = e.links.items} c.as_slice.ensures in
    once_from e.links.items c.deref.result.now made b.well_formed.one_link

pub build-requires-clause-once_to : goal.build-requires-clause-once_to
build-requires-clause-once_to h c =
    let b = c.args.self in
    let e = b.experiment.now in
    let made : c.deref.result.now ≡ flat_map wires_of e.links.items =
    c.deref.ensures.value ∙ c.in-Ok-wires_for.ensures ∙ ap (flat_map wires_of) {x = c.as_slice.result.now} {y = e.links.items} c.as_slice.ensures in
    once_to e.links.items c.deref.result.now made b.well_formed.one_link

pub new-requires-clause-small : goal.new-requires-clause-small
new-requires-clause-small h c = λ s.
    let b = c.args.self in
    let e = b.experiment.now in
    let caps : c.deref-2.result.now ≡ map capacity_of e.slots.items =
    c.deref-2.ensures.value ∙ c.in-Ok-capacities_of.ensures ∙ ap (map capacity_of) {x = c.as_slice-2.result.now} {y = e.slots.items} c.as_slice-2.ensures in
    let at = ap (λ (xs : List ℕ). slice_index xs s) {x = c.deref-2.result.now} {y = map capacity_of e.slots.items} caps in
    omega (arith, at, capacities_in_range e.slots.items b.well_formed.slots s)

pub new-requires-clause-fit : goal.new-requires-clause-fit
new-requires-clause-fit h c = λ s lt.
    let b = c.args.self in
    let e = b.experiment.now in
    let core = c.in-Ok-build.core in
    let rate = node_rate core in
    let count = node_count core in
    let homes = b.placement.now.slots.items in
    let capacities = map capacity_of e.slots.items in
    let caps : c.deref-2.result.now ≡ capacities =
    c.deref-2.ensures.value ∙ c.in-Ok-capacities_of.ensures ∙ ap (map capacity_of) {x = c.as_slice-2.result.now} {y = e.slots.items} c.as_slice-2.ensures in
    let many : count ≡ length e.guests.items = omega (arith, c.in-Ok-build.ensures.count, c.in-Ok.ensures.count, c.requires.images) in
    let rates = rates_are machine_state c.in-Ok.machines.items (devices_of e b.contents.items) (pipes_of e) e.guests.items b.loaded.items rate count c.in-Ok.ensures.states
    c.in-Ok-build.ensures.count c.in-Ok.ensures.count c.requires.images c.in-Ok-build.ensures.rates in
    let same = ap (λ (hs : List ℕ). sum_at (slice_index hs) s rate count) {x = c.as_slice-homes.result.now} {y = homes} c.as_slice-homes.ensures in
    let cap = ap (λ (cs : List ℕ). slice_index cs s * e.factor) {x = c.deref-2.result.now} {y = capacities} caps in
    let slots : length c.deref-2.result.now ≡ length e.slots.items = ap length {x = c.deref-2.result.now} {y = capacities} caps ∙ length-map e.slots.items capacity_of in
    omega (arith, same, cap, fit_is e homes rate count b.fits b.placed.one_each many rates s (omega (arith, lt, slots)))

pub returns-in-Ok-new-clause-stands : goal.returns-in-Ok-new-clause-stands
returns-in-Ok-new-clause-stands h c = λ e slots i n is.
    let b = c.args.self in
    c.in-Ok-new.ensures.stands (setup e i) n (c.in-Ok-build.ensures.stands (setup e i)
    (opening_is machine_state c.in-Ok.machines.items b.experiment.now e b.contents.items i b.loaded.items c.deref.result.now c.in-Ok.ensures.states is.experiment is.contents is.loaded
    c.in-Ok.ensures.count c.requires.images
    (c.deref.ensures.value ∙ c.in-Ok-wires_for.ensures ∙ ap (flat_map wires_of) {x = c.as_slice.result.now} {y = b.experiment.now.links.items} c.as_slice.ensures)))

pub returns-in-Ok-new-clause-host_setup : goal.returns-in-Ok-new-clause-host_setup
returns-in-Ok-new-clause-host_setup h c = λ e slots i n is.
    let own = c.args.self.experiment.now in
    let caps : c.deref-2.result.now ≡ map capacity_of own.slots.items =
    c.deref-2.ensures.value ∙ c.in-Ok-capacities_of.ensures ∙ ap (map capacity_of) {x = c.as_slice-2.result.now} {y = own.slots.items} c.as_slice-2.ensures in
    host_setup_is (host_setup_of c.in-Ok-new.bench n) own e c.as_slice-homes.result.now slots c.deref-2.result.now n (c.in-Ok-new.ensures.host_setup n) is.experiment
    (c.as_slice-homes.ensures ∙ is.placement) caps
