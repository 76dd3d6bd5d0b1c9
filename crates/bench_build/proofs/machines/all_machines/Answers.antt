-- The disks and nics of the file are enough for what the guests take.
use Rattle.std.proofs.Common.{◌≡◌, ℕ, List, All, length, map, sym, ap, ◌∙◌, subst, refl, arith}
use Rattle.dev_face.specs.States.{opening as opened}
use Rattle.dev_face.specs.declared.config.DevConfig.{DevConfig}
use Rattle.exp_file.specs.Links.{nics_of}
use Rattle.exp_file.specs.declared.guest_spec.GuestSpec.{GuestSpec}
use Rattle.exp_file.specs.declared.link_spec.LinkSpec.{LinkSpec}
use Rattle.link_pipe.specs.Piped.{InLimits}
use Rattle.bench_build.specs.Openings.{openings}
use Rattle.bench_build.specs.Setups.{disks_and_nics, pipe_params, pipes_at, pipes_of}
use Rattle.bench_build.specs.Takings.{AreDisks, MayBuild, with_base, others_at, guests_take}
use Rattle.bench_build.proofs.GuestDisks.{are_disks, lists_are}
use Rattle.bench_build.proofs.GuestNics.{others_are}
use Rattle.bench_build.proofs.GuestsTake.{takes_within}
use Rattle.bench_build.proofs.LinkWires.{guests_may, links_in_limits}
use Rattle.bench_build.proofs.Standing.{ok_then, openings_same}
use Rattle.bench_build.proofs.machines.all_machines.Goals as goal

pub machines_for-requires-clause-few : goal.machines_for-requires-clause-few
machines_for-requires-clause-few g c = omega (arith, ap length c.as_slice-guests.ensures, c.requires.well_formed.guests_high)

pub machines_for-requires-clause-guests : goal.machines_for-requires-clause-guests
machines_for-requires-clause-guests g c =
    let e = c.args.e.now in
    let guests = c.as_slice-guests.result.now in
    let same : guests ≡ e.guests.items = c.as_slice-guests.ensures in
    subst (All MayBuild) (sym same) (guests_may (length e.slots.items) e.guests.items c.requires.well_formed.guests)

pub machines_for-requires-clause-links : goal.machines_for-requires-clause-links
machines_for-requires-clause-links g c =
    let e = c.args.e.now in
    subst (All (λ (l : LinkSpec). InLimits (pipe_params l))) (sym c.as_slice-2.ensures) (links_in_limits e.guests.items e.links.items c.requires.well_formed.links)

pub machines_for-requires-clause-disks : goal.machines_for-requires-clause-disks
machines_for-requires-clause-disks g c = λ n lt.
    let e = c.args.e.now in
    let guests = c.as_slice-guests.result.now in
    let same : guests ≡ e.guests.items = c.as_slice-guests.ensures in
    let contents = c.args.contents.items in
    let each = lists_are c.deref.result.now c.in_ok-disks.disks.items c.as_slice.result.now e.disks.items contents (length guests) (length guests)
    c.deref.ensures.value c.as_slice.ensures refl c.in_ok-disks.ensures.disks in
    subst AreDisks (sym (each n lt))
    (are_disks (length e.guests.items) n e.disks.items contents c.requires.well_formed.disks c.requires.filled (c.requires.well_formed.two_disks n))

pub machines_for-requires-clause-enough : goal.machines_for-requires-clause-enough
machines_for-requires-clause-enough g c = λ k.
    let e = c.args.e.now in
    let guests = c.as_slice-guests.result.now in
    let same : guests ≡ e.guests.items = c.as_slice-guests.ensures in
    let contents = c.args.contents.items in
    let each = lists_are c.deref.result.now c.in_ok-disks.disks.items c.as_slice.result.now e.disks.items contents (length guests) (length guests)
    c.deref.ensures.value c.as_slice.ensures refl c.in_ok-disks.ensures.disks in
    let count : length guests ≡ length e.guests.items = ap length same in
    let within = takes_within e contents (others_at guests c.deref.result.now)
    (λ n lt. others_are e guests c.deref.result.now contents n same (sym c.requires.disks) (each n (omega (arith, lt, count)))) k in
    omega (arith, within, c.requires.enough.of k, ap (guests_take k (others_at guests c.deref.result.now)) count)

pub returns-clause-states : goal.returns-clause-states
returns-clause-states g c =
    let e = c.args.e.now in
    let guests = c.as_slice-guests.result.now in
    let same : guests ≡ e.guests.items = c.as_slice-guests.ensures in
    let contents = c.args.contents.items in
    let loaded = c.args.loaded.items in
    let each = lists_are c.deref.result.now c.in_ok-disks.disks.items c.as_slice.result.now e.disks.items contents (length guests) (length guests)
    c.deref.ensures.value c.as_slice.ensures refl c.in_ok-disks.ensures.disks in
    let count : length guests ≡ length e.guests.items = ap length same in
    let links = c.as_slice-2.result.now in
    let devices = λ (n : ℕ). map opened (with_base (others_at guests c.deref.result.now n)) in
    let pipes = λ (n : ℕ). pipes_at links n (nics_of guests n) in
    let wanted = λ (n : ℕ). map opened (with_base (disks_and_nics e contents n)) in
    let alike = openings_same devices wanted pipes (pipes_of e) e.guests.items loaded
    (λ n lt. ap (λ (zs : List DevConfig). map opened (with_base zs)) (others_are e guests c.deref.result.now contents n same (sym c.requires.disks) (each n (omega (arith, lt, count)))))
    (λ n lt. ap (λ (ls : List LinkSpec). pipes_at ls n (nics_of guests n)) c.as_slice-2.ensures ∙ ap (λ (gs : List GuestSpec). pipes_at e.links.items n (nics_of gs n)) same) in
    ok_then c.machines_for.result c.machines_for.ensures.states (λ ms made. made ∙ ap (λ (gs : List GuestSpec). openings devices pipes gs loaded) same ∙ alike)
