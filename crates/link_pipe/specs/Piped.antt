-- What a contract sees of a pipe.
use Rattle.std.specs.Prelude.{◌≡◌, ℕ, suc, ◌+◌, ◌-◌, ◌*◌, ◌/◌, ◌≤◌, ◌<◌, max, if◌then◌else◌, nat_le, nat_eq, List, [], ◌∷◌, ◌++◌, length, Bool}
use Rattle.std.specs.List.{All}
use Rattle.link_pipe.specs.declared.pipe_params.PipeParams.{PipeParams}
use Rattle.link_pipe.specs.Offers.{PipeAt, Leaving, leaving, Offer, pipe_at}

-- the parameters, what is held, and the least tick that the next call may name
pub record Piped : Type 0 where
  pub params : PipeParams
  pub backlog : PipeAt
  pub least : ℕ

abbrev pub piped : PipeParams → ℕ → List Leaving → ℕ → Piped
piped p e fs m = record { params = p; backlog = record { last_end = e; held = fs }; least = m }

-- the pipe stands for a list of offers at a tick
abbrev pub StandsFor : Piped → List Offer → ℕ → Type 0
StandsFor s h n = s.backlog ≡ pipe_at s.params h n

-- the limits of what a pipe is set up with
abbrev pub InLimits : PipeParams → Type 0
InLimits p = (1 ≤ p.bandwidth) × (p.bandwidth ≤ 1000000) × (1 ≤ p.queue) × (p.queue ≤ 1000)

-- no held frame leaves before tick n
abbrev pub NoneBefore : ℕ → List Leaving → Type 0
NoneBefore n fs = All (λ (a : Leaving). n ≤ a.leave) fs

-- leave ticks never fall, none is before m, and each is before the end e
abbrev pub InOrder : ℕ → ℕ → ℕ → List Leaving → Type 0
InOrder b m e [] = Unit {0}
InOrder b m e (f ∷ fs) = (m ≤ f.leave) × (f.leave * b < e) × InOrder b f.leave e fs

-- the end is not far past the tick m: by at most 1514 bytes for each held frame, now and after each of them has left
abbrev pub IsNear : ℕ → ℕ → ℕ → List Leaving → Type 0
IsNear b m e [] = e ≤ m * b
IsNear b m e (f ∷ fs) = (e ≤ m * b + 1514 * suc (length fs)) × IsNear b (max m (f.leave + 1)) e fs

pub record Sound (s : Piped) : Type 0 where
  pub limits : InLimits s.params
  pub fits : length s.backlog.held ≤ s.params.queue
  pub in_order : InOrder s.params.bandwidth s.least s.backlog.last_end s.backlog.held
  pub near : IsNear s.params.bandwidth s.least s.backlog.last_end s.backlog.held

-- a pipe that holds this many frames drops what it is offered
abbrev pub is_full : Piped → Bool
is_full s = nat_le s.params.queue (length s.backlog.held)

-- what is held after an offer, from what was held alone
abbrev pub placed : PipeParams → PipeAt → ℕ → List ℕ → PipeAt
placed p at n f = if nat_le p.queue (length at.held) then at else record {
  last_end = max (n * p.bandwidth) at.last_end + length f;
  held = at.held ++ leaving ((max (n * p.bandwidth) at.last_end + length f - 1) / p.bandwidth) f ∷ [];
}

-- the pipe after an offer
unfoldable pub offered : Piped → ℕ → List ℕ → Piped
offered s n f = record { params = s.params; backlog = placed s.params s.backlog n f; least = n }

-- the frames at the front that leave in tick n, and the rest
abbrev pub front_in : ℕ → List Leaving → List (List ℕ)
front_in n [] = []
front_in n (f ∷ fs) = if nat_eq f.leave n then f.frame ∷ front_in n fs else []

abbrev pub rest_in : ℕ → List Leaving → List Leaving
rest_in n [] = []
rest_in n (f ∷ fs) = if nat_eq f.leave n then rest_in n fs else f ∷ fs

-- the pipe after the end of a tick
unfoldable pub ended : Piped → ℕ → Piped
ended s n = record { params = s.params; backlog = record { last_end = s.backlog.last_end; held = rest_in n s.backlog.held }; least = n + 1 }
