-- What a machine records of a tick names it.
use Rattle.std.proofs.Common.{◌≡◌, ◌∙◌, ℕ, zero, suc, ◌+◌, List, [], ◌∷◌, Bool, true, false, cond, Option, Some, None, refl, sym, subst, inl}
use Rattle.trace_rec.specs.Ticks.{AreOf}
use Rattle.dev_face.specs.States.{DevState}
use Rattle.dev_face.specs.Calls.{Ended, dev_end}
use Rattle.dev_face.proofs.DeviceRecords.{dev_begin_of, dev_end_of}
use Rattle.dev_face.proofs.Recorded.{are_of_both}
use Rattle.link_pipe.specs.PipeStates.{PipeState}
use Rattle.dev_list.specs.Sending.{pipe_of, offer_one, offer_recs, sending}
use Rattle.dev_list.specs.Walks.{walk, nic_of, arriving, begin_one, end_one}
use Rattle.lookahead_core.specs.Motion.{steps}
use Rattle.lookahead_core.specs.Synchronous.{Setup, records_of, run_out, begun, arrivals, sys}
use Rattle.rv_exec.specs.HartState.{HartState}
use Rattle.rv_exec.specs.Moves.{Moves}
use Rattle.rv_exec.specs.Step.{step_of, is_busy, awake, idled}
use Rattle.rv_exec.specs.declared.stepped.Stepped.{Stepped}
use Rattle.rv_exec.specs.declared.stepped.Stepped.TheVariants.{Idle, Retired, Trapped}
use Rattle.rv_exec.proofs.Moves.{awake_moves}
use Rattle.guest_machine.specs.MemoryMap.{MapState, map_bus, first_nic, devices_begin, devices_end}
use Rattle.guest_machine.specs.Tick.{MachineState, step_recs, more_recs, machine_step, machine_begin, machine_motion}
use Rattle.guest_machine.proofs.Ticks.{tick_kept}

-- the devices one after another
walk_of : (n : ℕ) (act : ℕ → DevState → List ℕ → Ended) → ((i : ℕ) (s : DevState) (ram : List ℕ) → AreOf n (act i s ram).recs) → (i : ℕ) (ss : List DevState) (ram : List ℕ) → AreOf n (walk act i ss ram).recs
unfolding walk
walk_of n act each i [] ram = tt
walk_of n act each i (s ∷ ss) ram =
    are_of_both n (act i s ram).recs (walk act (i + 1) ss (act i s ram).ram).recs (each i s ram) (walk_of n act each (i + 1) ss (act i s ram).ram)

begin_of : (n : ℕ) (s : MapState) (lists : List (List (List ℕ))) → AreOf n (devices_begin s n lists).recs
begin_of n s lists =
    walk_of n (begin_one n (arriving (first_nic s) lists)) (λ i d ram. dev_begin_of d n ram (arriving (first_nic s) lists i)) 0 s.devices s.ram

-- what is recorded of the frames that a nic offers to its pipe
offers_of : (n nic : ℕ) (pipe : Option PipeState) (frames : List (List ℕ)) → AreOf n (offer_recs n nic pipe frames)
offers_of n nic pipe [] = tt
offers_of n nic pipe (f ∷ fs) = (refl, offers_of n nic (offer_one n pipe f) fs)

sending_of : (n : ℕ) (pipes : List (Option PipeState)) (nic : Option ℕ) (frames : List (List ℕ)) → AreOf n (sending n pipes nic frames)
sending_of n pipes None frames = tt
sending_of n pipes (Some nic) frames = offers_of n nic (pipe_of pipes nic) frames

end_of : (n : ℕ) (s : MapState) → AreOf n (devices_end s n).recs
end_of n s =
    walk_of n (end_one n (first_nic s) s.pipes)
    (λ i d ram. are_of_both n (dev_end d n ram).recs (sending n s.pipes (nic_of (first_nic s) i) (dev_end d n ram).frames)
    (dev_end_of d n ram) (sending_of n s.pipes (nic_of (first_nic s) i) (dev_end d n ram).frames)) 0 s.devices s.ram

-- the records of a step
more_of : (n : ℕ) (halted : Bool) (sent : Option ℕ) → AreOf n (more_recs n halted sent)
more_of n halted (Some byte) = (refl, tt)
more_of n true None = (refl, tt)
more_of n false None = tt

step_recs_of : (n : ℕ) (out : Stepped) (halted : Bool) (sent : Option ℕ) → AreOf n (step_recs n out halted sent)
step_recs_of n Idle halted sent = tt
step_recs_of n (Retired pc word) halted sent = (refl, more_of n halted sent)
step_recs_of n (Trapped cause pc) halted sent = (refl, tt)

-- a step moves the map by one store at most, and so leaves the tick
step_moves : (h : HartState) (s : MapState) (busy : Bool) → Moves map_bus s (cond busy (awake map_bus (record h { waiting = false }) s) (idled h s)).bus
step_moves h s true = awake_moves map_bus (record h { waiting = false }) s
step_moves h s false = inl refl

step_stays : (h : HartState) (s : MapState) → (step_of map_bus h s).bus.tick ≡ s.tick
step_stays h s =
    let s' : MapState = (step_of map_bus h s).bus in
    tick_kept s s' (record s' { sent = None }) (step_moves h s (is_busy h (map_bus.lines_of s) (map_bus.is_stopped s))) refl

-- within a tick, a machine stands in that tick and its records name it
record Names (n : ℕ) (s : MachineState) : Type 0 where
  pub tick : s.map.tick ≡ n
  pub recs : AreOf n s.recs

step_names : (n : ℕ) (s : MachineState) → Names n s → Names n (machine_step s)
step_names n s p =
    let a = step_of map_bus s.hart s.map in
    let stays : a.bus.tick ≡ n = step_stays s.hart s.map ∙ p.tick in
    record {
      tick = stays;
      recs = are_of_both n s.recs (step_recs a.bus.tick a.out a.bus.halted a.bus.sent) p.recs
          (subst (λ (t : ℕ). AreOf n (step_recs t a.out a.bus.halted a.bus.sent)) (sym stays) (step_recs_of n a.out a.bus.halted a.bus.sent));
    }

steps_name : (n k : ℕ) (s : MachineState) → Names n s → Names n (steps machine_motion k s)
steps_name n zero s p = p
steps_name n (suc k) s p = step_names n (steps machine_motion k s) (steps_name n k s p)

begin_names : (n : ℕ) (s : MachineState) (lists : List (List (List ℕ))) → Names n (machine_begin s n lists)
begin_names n s lists = record { tick = refl; recs = begin_of n s.map lists }

pub tick_named : (x : Setup MachineState) (g n : ℕ) → AreOf n (records_of machine_motion x g n)
unfolding run_out begun
tick_named x g n =
    let s : MachineState = (sys machine_motion x n).state g in
    let end : MachineState = run_out machine_motion x (sys machine_motion x n) n g in
    let names : Names n end =
    steps_name n (machine_motion.rate (x.opening g)) (begun machine_motion x (sys machine_motion x n) n g) (begin_names n s (arrivals machine_motion x (sys machine_motion x n) n g)) in
    are_of_both n end.recs (devices_end end.map n).recs names.recs (end_of n end.map)
