-- The setup of an experiment: what its synchronous system is made of. It knows no slot and no factor.
use Rattle.std.specs.Prelude.{ℕ, ◌+◌, ◌==◌, if◌then◌else◌, List, [], ◌∷◌, ◌++◌, map, length, slice_get, Option, Some, None, Result, Ok, Err}
use Rattle.std.specs.List.{find, flat_map, range_with_len}
use Rattle.std.specs.Option.{option_map}
use Rattle.exp_file.specs.Disks.{disks_of}
use Rattle.exp_file.specs.Links.{nics_of, has_end}
use Rattle.exp_file.specs.declared.experiment.Experiment.{Experiment}
use Rattle.exp_file.specs.declared.guest_spec.GuestSpec.{GuestSpec}
use Rattle.exp_file.specs.declared.disk_spec.DiskSpec.{DiskSpec}
use Rattle.exp_file.specs.declared.slot_spec.SlotSpec.{SlotSpec}
use Rattle.exp_file.specs.declared.link_spec.LinkSpec.{LinkSpec}
use Rattle.disk_model.specs.declared.disk_params.DiskParams.{DiskParams}
use Rattle.link_pipe.specs.declared.pipe_params.PipeParams.{PipeParams}
use Rattle.dev_face.specs.declared.config.DevConfig.{DevConfig}
use Rattle.dev_face.specs.declared.config.DevConfig.TheVariants as config
use Rattle.dev_face.specs.States as states
use Rattle.lookahead_core.specs.Synchronous.{Setup}
use Rattle.lookahead_core.specs.declared.wire.Wire.{Wire}
use Rattle.guest_machine.specs.Tick.{MachineState, machine_motion}
use Rattle.guest_machine.specs.Opening.{opening}
use Rattle.slot_sched.specs.Legal.{Rules}
use Rattle.slot_sched.specs.Schedule.{HostSetup, rules}
use Rattle.bench_build.specs.Images.{image}
use Rattle.bench_build.specs.Inputs.{Inputs}
use Rattle.bench_build.specs.declared.image_fault.ImageFault.{ImageFault}
use Rattle.bench_build.specs.declared.loaded.Loaded.{Loaded}

-- a disk with what it holds at first and its number on its guest, which is its virtio slot too
abbrev pub params_of : DiskSpec → DiskParams
params_of d = record { base = d.base; seek_num = d.seek_num; seek_den = d.seek_den; per_sector = d.per_sector }

abbrev pub disk_config : DiskSpec → List ℕ → ℕ → DevConfig
disk_config d content n = config.Blk d.sectors (params_of d) content n n

-- the disks of guest g in the order of the file, numbered from n on
abbrev pub disk_configs : ℕ → ℕ → List DiskSpec → List (List ℕ) → List DevConfig
disk_configs g n [] contents = []
disk_configs g n (d ∷ ds) [] = []
disk_configs g n (d ∷ ds) (b ∷ contents) = if d.guest == g then disk_config d b n ∷ disk_configs g (n + 1) ds contents else disk_configs g n ds contents

-- a nic of guest g, by its number on it; its virtio slot is behind those of so many disks
abbrev pub nic_config : ℕ → ℕ → ℕ → DevConfig
nic_config g disks n = config.Net g n (disks + n)

abbrev pub nic_configs : ℕ → ℕ → ℕ → List DevConfig
nic_configs g disks nics = map (nic_config g disks) (range_with_len 0 nics)

-- the disks of a guest, which hold these contents, and then its nics
abbrev pub disks_and_nics : Experiment → List (List ℕ) → ℕ → List DevConfig
disks_and_nics e contents g = disk_configs g 0 e.disks.items contents ++ nic_configs g (disks_of g e.disks.items) (nics_of e.guests.items g)

-- the devices of a guest: a Clint and a Uart, then its disks and its nics
abbrev pub guest_configs : Experiment → Inputs → ℕ → List DevConfig
guest_configs e i g = config.Clint ∷ config.Uart ∷ disks_and_nics e i.disks g

-- a link has the same pipe at each of its ends
abbrev pub pipe_params : LinkSpec → PipeParams
pipe_params l = record { bandwidth = l.bandwidth; queue = l.queue }

-- the pipe at a nic of guest g is that of the link that has an end there; a nic without a link has none
abbrev pub pipe_of : List LinkSpec → ℕ → ℕ → Option PipeParams
pipe_of links g nic = option_map pipe_params (find (has_end g nic) links)

-- an entry for each of so many nics
abbrev pub pipes_at : List LinkSpec → ℕ → ℕ → List (Option PipeParams)
pipes_at links g nics = map (pipe_of links g) (range_with_len 0 nics)

abbrev pub pipes_of : Experiment → ℕ → List (Option PipeParams)
pipes_of e g = pipes_at e.links.items g (nics_of e.guests.items g)

-- the opening machine of a guest with this rate, this image, these devices and these pipes. No bench is built with an image
-- that is refused, so what stands for one is never asked
abbrev pub opens : ℕ → Result Loaded ImageFault → List states.DevState → List (Option PipeParams) → MachineState
opens rate (Ok l) devices pipes = opening rate l.entry l.ram devices pipes
opens rate (Err fault) devices pipes = opening rate 0 [] devices pipes

-- the same of the guest with this number, whose image this is; beyond the last guest nothing is asked either
abbrev pub machine_of : Option GuestSpec → Option (List ℕ) → List states.DevState → List (Option PipeParams) → MachineState
machine_of (Some g) (Some b) devices pipes = opens g.rate (image g.format g.ram b) devices pipes
machine_of (Some g) None devices pipes = opening g.rate 0 [] devices pipes
machine_of None b devices pipes = opening 1 0 [] devices pipes

-- a link is two wires, one in each direction
abbrev pub wires_of : LinkSpec → List Wire
wires_of l =
    record { from = l.a; from_nic = l.a_nic; to = l.b; to_nic = l.b_nic; delay = l.delay }
    ∷ record { from = l.b; from_nic = l.b_nic; to = l.a; to_nic = l.a_nic; delay = l.delay } ∷ []

-- the setup of an experiment for which this was read
abbrev pub setup : Experiment → Inputs → Setup MachineState
setup e i = record {
  count = length e.guests.items;
  opening = λ g. machine_of (slice_get e.guests.items g) (slice_get i.images g) (map states.opening (guest_configs e i g)) (pipes_of e g);
  wires = flat_map wires_of e.links.items;
}

-- the schedule that is asked of a run: who stands where, what slots have, the factor, and the number of host ticks
abbrev pub capacity_of : SlotSpec → ℕ
capacity_of s = s.capacity

abbrev pub host_setup : Experiment → List ℕ → ℕ → HostSetup
host_setup e slots host_ticks = record { homes = slots; capacities = map capacity_of e.slots.items; factor = e.factor; host_ticks = host_ticks }

-- what the journal of a run is judged by
abbrev pub run_rules : Experiment → List ℕ → Inputs → ℕ → Rules
run_rules e slots i host_ticks = rules machine_motion (setup e i) (host_setup e slots host_ticks)
