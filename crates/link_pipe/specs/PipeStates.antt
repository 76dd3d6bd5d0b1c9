-- The plain state of a pipe, and what each call makes of it. It is by what the pipe holds alone.
use Rattle.std.specs.Prelude.{ℕ, ◌+◌, min, nat_le, Bool, List, [], ◌∷◌, length, map}
use Rattle.link_pipe.specs.declared.pipe_params.PipeParams.{PipeParams}
use Rattle.link_pipe.specs.Offers.{PipeAt, Leaving, leaving_in, leaving_from}
use Rattle.link_pipe.specs.Piped.{Piped, placed}

pub record PipeState : Type 0 where
  pub params : PipeParams
  pub backlog : PipeAt

-- that of a pipe as contracts see it
abbrev pub state_of : Piped → PipeState
state_of s = record { params = s.params; backlog = s.backlog }

-- a pipe that was offered nothing
abbrev pub new_pipe : PipeParams → PipeState
new_pipe p = record { params = p; backlog = record { last_end = 0; held = [] } }

-- whether a pipe drops what it is offered
abbrev pub pipe_is_full : PipeState → Bool
pipe_is_full s = nat_le s.params.queue (length s.backlog.held)

-- after an offer in tick n
abbrev pub pipe_offered : PipeState → ℕ → List ℕ → PipeState
pipe_offered s n f = record { params = s.params; backlog = placed s.params s.backlog n f }

-- after the end of tick n: what leaves later is still held
abbrev pub pipe_ended : PipeState → ℕ → PipeState
pipe_ended s n = record { params = s.params; backlog = record { last_end = s.backlog.last_end; held = leaving_from (n + 1) s.backlog.held } }

-- the frames that the end of tick n gives up
abbrev pub pipe_left : PipeState → ℕ → List (List ℕ)
pipe_left s n = map (λ a. a.frame) (leaving_in n s.backlog.held)

-- the least of a limit and of the ticks in which these frames leave
abbrev pub least_leave : ℕ → List Leaving → ℕ
least_leave limit [] = limit
least_leave limit (f ∷ fs) = min f.leave (least_leave limit fs)
