-- A machine opens with the disks and nics that its plan says.
use Rattle.std.proofs.Common.{◌≡◌, ℕ, suc, ◌+◌, ◌-◌, ◌≤◌, true, List, [], length, map, drop, replicate, false, None, Some, Option, get_or, All, refl, sym, ap, ◌∙◌, subst, arith, length-append}
use Rattle.std.specs.Prelude.{option_map}
use Rattle.std.proofs.lemmas.List.{length-map, length-replicate, drop_at}
use Rattle.std.proofs.lemmas.List.Elements.{All-map, All-replicate, All-nil}
use Rattle.trace_rec.specs.declared.rec.Rec.{Rec}
use Rattle.dev_face.specs.declared.kind.Kind.{Kind}
use Rattle.dev_face.specs.declared.kind.Kind.TheVariants as kind
use Rattle.dev_face.specs.States.{DevState, kind_of, takes_frames}
use Rattle.link_pipe.specs.declared.pipe_params.PipeParams.{PipeParams}
use Rattle.link_pipe.specs.Offers.{Leaving}
use Rattle.link_pipe.specs.PipeStates.{new_pipe}
use Rattle.dev_list.specs.Sending.{NoneLeaves}
use Rattle.dev_list.specs.Walks.{AreNics}
use Rattle.rv_exec.specs.HartState.{HartState}
use Rattle.rv_exec.specs.Step.{opening_hart}
use Rattle.guest_machine.specs.MemoryMap.{MapState}
use Rattle.guest_machine.specs.Opening.{machine_kinds, opening}
use Rattle.guest_machine.specs.Tick.{MachineState}

pub kinds_length : (disks nics : ℕ) → length (machine_kinds disks nics) ≡ 2 + disks + nics
kinds_length disks nics =
    let both = length-append (replicate disks kind.Blk) (replicate nics kind.Net) in
    omega (arith, both, length-replicate disks kind.Blk, length-replicate nics kind.Net)

pub device_count : (devices : List DevState) (disks nics : ℕ) → map kind_of devices ≡ machine_kinds disks nics → length devices ≡ 2 + disks + nics
device_count devices disks nics kinds = sym (length-map devices kind_of) ∙ ap length kinds ∙ kinds_length disks nics

-- the last devices are the nics
pub last_are_nics : (kinds : List Kind) (disks nics n : ℕ) → kinds ≡ machine_kinds disks nics → n ≡ nics → AreNics n kinds
last_are_nics kinds disks nics n is en =
    let from : length kinds - n ≡ suc (suc disks) = omega (arith, ap length is ∙ kinds_length disks nics, en) in
    let those : drop (length kinds - n) kinds ≡ replicate nics kind.Net =
    ap (λ k. drop k kinds) from ∙ ap (drop (suc (suc disks))) is ∙ drop_at (replicate disks kind.Blk) (replicate nics kind.Net) disks (length-replicate disks kind.Blk) in
    subst (All (λ k. takes_frames k ≡ true)) (sym those) (All-replicate (λ k. takes_frames k ≡ true) nics kind.Net refl)

-- no frame is in a new pipe
new_by : (n : ℕ) (p : Option PipeParams) → NoneLeaves n (option_map new_pipe p)
new_by n None = tt
new_by n (Some p) = All-nil (λ (a : Leaving). n ≤ a.leave)

pub new_none_leave : (n : ℕ) (params : List (Option PipeParams)) → All (NoneLeaves n) (map (option_map new_pipe) params)
new_none_leave n params = All-map (NoneLeaves n) (option_map new_pipe) params (λ k d lt. new_by n (get_or params k d))

abbrev map_with : List ℕ → List DevState → List (Option PipeParams) → MapState
map_with ram devices params = record { ram = ram; devices = devices; pipes = map (option_map new_pipe) params; tick = 0; begun = false; halted = false; sent = None }

abbrev with : ℕ → HartState → MapState → List Rec → MachineState
with rate hart m recs = record { rate = rate; hart = hart; map = m; made = 0; recs = recs }

pub opened : (rate entry : ℕ) (ram : List ℕ) (devices : List DevState) (params : List (Option PipeParams)) (hart : HartState) (m : MapState) (recs : List Rec) →
    hart ≡ opening_hart entry → m ≡ map_with ram devices params → recs ≡ [] → with rate hart m recs ≡ opening rate entry ram devices params
opened rate entry ram devices params hart m recs is_hart is_map none =
    ap (λ h. with rate h m recs) is_hart ∙ ap (λ (k : MapState). with rate (opening_hart entry) k recs) is_map ∙ ap (with rate (opening_hart entry) (map_with ram devices params)) none
