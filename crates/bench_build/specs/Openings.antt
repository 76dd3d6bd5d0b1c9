-- The machines of guests whose images stand in RAM.
use Rattle.std.specs.Prelude.{ℕ, suc, List, [], ◌∷◌, Option}
use Rattle.dev_face.specs.States.{DevState}
use Rattle.exp_file.specs.declared.guest_spec.GuestSpec.{GuestSpec}
use Rattle.guest_machine.specs.Opening.{opening}
use Rattle.guest_machine.specs.Tick.{MachineState}
use Rattle.link_pipe.specs.declared.pipe_params.PipeParams.{PipeParams}
use Rattle.bench_build.specs.declared.loaded.Loaded.{Loaded}

-- each guest with its devices and its pipes by its number
abbrev pub openings : (ℕ → List DevState) → (ℕ → List (Option PipeParams)) → List GuestSpec → List Loaded → List MachineState
openings devices pipes gs [] = []
openings devices pipes [] (l ∷ ls) = []
openings devices pipes (g ∷ gs) (l ∷ ls) = opening g.rate l.entry l.ram (devices 0) (pipes 0) ∷ openings (λ n. devices (suc n)) (λ n. pipes (suc n)) gs ls
