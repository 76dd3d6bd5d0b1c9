-- The frames that leave the nics when a tick ends, and the pipes of these. A nic without a link has no pipe.
use Rattle.std.specs.Prelude.{ℕ, ◌≤◌, not, if◌then◌else◌, IfSome, Bool, false, Option, Some, None, option_map, List, [], ◌∷◌, length, map, slice_index_or, slice_set}
use Rattle.trace_rec.specs.declared.rec.Rec.{Rec}
use Rattle.trace_rec.specs.declared.what.What.{What}
use Rattle.trace_rec.specs.declared.what.What.TheVariants.{Sent, Dropped}
use Rattle.link_pipe.specs.Piped.{Piped, NoneBefore}
use Rattle.link_pipe.specs.PipeStates.{PipeState, state_of, pipe_is_full, pipe_offered, pipe_ended, pipe_left, least_leave}

-- the plain states of the pipes
abbrev pub pipe_states : List (Option Piped) → List (Option PipeState)
pipe_states pipes = map (option_map state_of) pipes

-- the pipe of a nic
abbrev pub pipe_of : List (Option PipeState) → ℕ → Option PipeState
pipe_of pipes nic = slice_index_or pipes nic None

-- only a pipe that is not full takes a frame
abbrev pub takes : Option PipeState → Bool
takes None = false
takes (Some p) = not (pipe_is_full p)

-- a pipe after a frame was offered in a tick
abbrev pub offer_one : ℕ → Option PipeState → List ℕ → Option PipeState
offer_one now pipe frame = option_map (λ p. pipe_offered p now frame) pipe

-- and after many were, in order
abbrev pub offer_all : ℕ → Option PipeState → List (List ℕ) → Option PipeState
offer_all now pipe [] = pipe
offer_all now pipe (f ∷ fs) = offer_all now (offer_one now pipe f) fs

-- what is told of a nic's frame that is offered
abbrev pub told : ℕ → Option PipeState → List ℕ → What
told nic pipe frame = if takes pipe then Sent nic frame else Dropped nic (length frame)

-- the records of many offers
abbrev pub offer_recs : ℕ → ℕ → Option PipeState → List (List ℕ) → List Rec
offer_recs now nic pipe [] = []
offer_recs now nic pipe (f ∷ fs) = record { tick = now; what = told nic pipe f } ∷ offer_recs now nic (offer_one now pipe f) fs

-- the same of a device that may be no nic: none of its frames is offered
abbrev pub sending : ℕ → List (Option PipeState) → Option ℕ → List (List ℕ) → List Rec
sending now pipes None frames = []
sending now pipes (Some nic) frames = offer_recs now nic (pipe_of pipes nic) frames

-- the pipes after these offers
abbrev pub pipes_after : ℕ → List (Option PipeState) → Option ℕ → List (List ℕ) → List (Option PipeState)
pipes_after now pipes None frames = pipes
pipes_after now pipes (Some nic) frames = slice_set pipes nic (offer_all now (pipe_of pipes nic) frames)

-- the pipes after the frames that left their nics were offered, a list of frames for each
abbrev pub pipes_offered : ℕ → List (Option PipeState) → List (List (List ℕ)) → List (Option PipeState)
pipes_offered now [] frames = []
pipes_offered now (p ∷ ps) [] = p ∷ ps
pipes_offered now (p ∷ ps) (fs ∷ fss) = offer_all now p fs ∷ pipes_offered now ps fss

-- the pipes after the end of a tick, and what they give up then, a list of frames for each
abbrev pub pipes_ended : ℕ → List (Option PipeState) → List (Option PipeState)
pipes_ended now pipes = map (option_map (λ p. pipe_ended p now)) pipes

abbrev pub left_by : ℕ → Option PipeState → List (List ℕ)
left_by now None = []
left_by now (Some p) = pipe_left p now

abbrev pub pipes_left : ℕ → List (Option PipeState) → List (List (List ℕ))
pipes_left now pipes = map (left_by now) pipes

-- the least of a limit and of the ticks in which a held frame leaves a pipe
abbrev pub least_left : ℕ → Option PipeState → ℕ
least_left limit None = limit
least_left limit (Some p) = least_leave limit p.backlog.held

abbrev pub least_leaving : ℕ → List (Option PipeState) → ℕ
least_leaving limit [] = limit
least_leaving limit (p ∷ ps) = least_left (least_leaving limit ps) p

-- no frame leaves a pipe before a tick
abbrev pub NoneLeaves : ℕ → Option PipeState → Type 0
NoneLeaves tick pipe = IfSome pipe (λ (p : PipeState). NoneBefore tick p.backlog.held)

-- a pipe may be called in a tick
abbrev pub MayCall : ℕ → Option Piped → Type 0
MayCall tick pipe = IfSome pipe (λ (p : Piped). p.least ≤ tick)
