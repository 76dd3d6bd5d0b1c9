-- The machines of an experiment stand at its opening, and its bench has its setup of the host.
use Rattle.std.proofs.Common.{◌≡◌, ℕ, ◌<◌, List, length, map, Option, Some, sym, ap, ◌∙◌, arith}
use Rattle.std.specs.Prelude.{slice_get}
use Rattle.std.specs.List.{flat_map}
use Rattle.std.specs.Option.{option_map}
use Rattle.std.proofs.lemmas.List.{length-map}
use Rattle.std.proofs.lemmas.Option.{slice_get_within}
use Rattle.dev_face.specs.States.{DevState, opening as opened}
use Rattle.exp_file.specs.Links.{nics_of}
use Rattle.exp_file.specs.declared.experiment.Experiment.{Experiment}
use Rattle.exp_file.specs.declared.guest_spec.GuestSpec.{GuestSpec}
use Rattle.link_pipe.specs.PipeStates.{new_pipe}
use Rattle.link_pipe.specs.declared.pipe_params.PipeParams.{PipeParams}
use Rattle.lookahead_core.specs.Opening.{IsOpening}
use Rattle.lookahead_core.specs.declared.wire.Wire.{Wire}
use Rattle.slot_sched.specs.BenchWords.{host_setup_from}
use Rattle.slot_sched.specs.Schedule.{HostSetup}
use Rattle.guest_machine.specs.Tick.{MachineState}
use Rattle.bench_build.specs.declared.loaded.Loaded.{Loaded}
use Rattle.bench_build.specs.Building.{AreLoaded}
use Rattle.bench_build.specs.Inputs.{Inputs}
use Rattle.bench_build.specs.Openings.{openings}
use Rattle.bench_build.specs.Setups.{setup, host_setup, machine_of, disks_and_nics, pipes_of, wires_of, capacity_of}
use Rattle.bench_build.specs.Takings.{with_base}
use Rattle.bench_build.proofs.LinkWires.{pipes_count}
use Rattle.bench_build.proofs.Loads.{rate_at, rate_is}
use Rattle.bench_build.proofs.Standing.{some_at, state_at, opens_at}

-- the devices of each guest of an experiment whose disks hold this, as they open
abbrev pub devices_of : Experiment → List (List ℕ) → ℕ → List DevState
devices_of e contents g = map opened (with_base (disks_and_nics e contents g))

-- each node has the rate of its guest
pub rates_are : {M : Type 0} (state : M → MachineState) (ms : List M) (devices : ℕ → List DevState) (pipes : ℕ → List (Option PipeParams)) (gs : List GuestSpec) (ls : List Loaded)
    (rates : ℕ → ℕ) (n : ℕ) → map state ms ≡ openings devices pipes gs ls → n ≡ length ms → length ms ≡ length ls → length ls ≡ length gs
    → ((g : ℕ) (m : M) → slice_get ms g ≡ Some m → rates g ≡ (state m).rate) → (g : ℕ) → g < n → rates g ≡ rate_at gs g
rates_are state ms devices pipes gs ls rates n made nodes many all is g lt =
    let m = some_at ms g (omega (arith, lt, nodes)) in
    let guest = some_at gs g (omega (arith, lt, nodes, many, all)) in
    let l = some_at ls g (omega (arith, lt, nodes, many)) in
    is g m.0 m.1
    ∙ ap (λ (k : MachineState). k.rate) (state_at state ms m.0 devices pipes gs ls g guest.0 l.0 made m.1 guest.1 l.1)
    ∙ rate_is gs g guest.0 guest.1

-- and its nics
pub nics_are : {M : Type 0} (state : M → MachineState) (ms : List M) (devices : ℕ → List DevState) (e : Experiment) (ls : List Loaded)
    → map state ms ≡ openings devices (pipes_of e) e.guests.items ls → length ms ≡ length ls → length ls ≡ length e.guests.items
    → (g : ℕ) (m : M) → slice_get ms g ≡ Some m → length (state m).map.pipes ≡ nics_of e.guests.items g
nics_are state ms devices e ls made many all g m at =
    let within : g < length ms = slice_get_within ms g m at in
    let guest = some_at e.guests.items g (omega (arith, within, many, all)) in
    let l = some_at ls g (omega (arith, within, many)) in
    ap (λ (k : MachineState). length k.map.pipes) (state_at state ms m devices (pipes_of e) e.guests.items ls g guest.0 l.0 made at guest.1 l.1)
    ∙ length-map (pipes_of e g) (option_map new_pipe)
    ∙ pipes_count e.links.items g (nics_of e.guests.items g)

-- each node stands where the setup has it
pub opening_is : {M : Type 0} (state : M → MachineState) (ms : List M) (own e : Experiment) (contents : List (List ℕ)) (i : Inputs) (ls : List Loaded) (wires : List Wire)
    → map state ms ≡ openings (devices_of own contents) (pipes_of own) own.guests.items ls → own ≡ e → contents ≡ i.disks → AreLoaded e.guests.items i.images ls
    → length ms ≡ length ls → length ls ≡ length own.guests.items → wires ≡ flat_map wires_of own.links.items → IsOpening state ms wires (setup e i)
opening_is state ms own e contents i ls wires made same disks loaded many all links =
    let guests : length own.guests.items ≡ length e.guests.items = ap (λ (x : Experiment). length x.guests.items) same in
    record {
      count = omega (arith, guests, many, all);
      states = λ g node at.
          let within : g < length ms = slice_get_within ms g node at in
          let guest = some_at e.guests.items g (omega (arith, within, guests, many, all)) in
          let l = some_at ls g (omega (arith, within, many)) in
          let here = λ (x : Experiment) (bs : List (List ℕ)). machine_of (slice_get e.guests.items g) (slice_get i.images g) (devices_of x bs g) (pipes_of x g) in
          state_at state ms node (devices_of own contents) (pipes_of own) own.guests.items ls g guest.0 l.0 made at
          (ap (λ (x : Experiment). slice_get x.guests.items g) same ∙ guest.1) l.1
          ∙ opens_at (devices_of own contents g) (pipes_of own g) e.guests.items i.images ls g guest.0 l.0 loaded guest.1 l.1
          ∙ ap (λ (x : Experiment). here x contents) same
          ∙ ap (here e) disks;
      wires_are = ap (λ (x : Experiment). flat_map wires_of x.links.items) (sym same) ∙ sym links;
    }

-- the setup of the host of a bench of these homes and capacities is that of the experiment on these slots
pub host_setup_is : (p : HostSetup) (own e : Experiment) (homes slots given : List ℕ) (n : ℕ) → p ≡ host_setup_from homes given own.factor n → own ≡ e → homes ≡ slots
    → given ≡ map capacity_of own.slots.items → p ≡ host_setup e slots n
host_setup_is p own e homes slots given n made same at capacities =
    made
    ∙ ap (λ (hs : List ℕ). host_setup_from hs given own.factor n) at
    ∙ ap (λ (cs : List ℕ). host_setup_from slots cs own.factor n) capacities
    ∙ ap (λ (x : Experiment). host_setup x slots n) same
