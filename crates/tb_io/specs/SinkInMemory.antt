-- What a sink in memory takes.
use Rattle.std.specs.Prelude.{ℕ, List, [], ◌∷◌, ◌++◌, length, take, ◌-◌, min, Option, option_map, unwrap_or, is_some, Bool, ◌||◌, ◌==◌, nat_lt, find}
use Rattle.tb_io.specs.Causes.{one_more}

-- the bytes taken, how many it has room for in all, how many puts were made, the numbers of those
-- that are to fail with how many bytes each then takes, and how many failed
pub record Puts : Type 0 where
  pub bytes : List ℕ
  pub room : ℕ
  pub calls : ℕ
  pub failing : List (ℕ × ℕ)
  pub faults : ℕ

-- nothing was put, and no put is to fail
abbrev pub no_puts : ℕ → Puts
no_puts room = record { bytes = []; room = room; calls = 0; failing = []; faults = 0 }

-- this put is to fail too, after so many bytes
abbrev pub failing_too : Puts → ℕ → ℕ → Puts
failing_too s call after = record { bytes = s.bytes; room = s.room; calls = s.calls; failing = s.failing ++ (call, after) ∷ []; faults = s.faults }

-- after how many bytes the next put is to fail, where it is to: the first that was listed for it.
-- Puts are numbered from 1
abbrev pub next_stop : Puts → Option ℕ
next_stop s = option_map (λ p. p.1) (find (λ p. p.0 == one_more s.calls) s.failing)

-- what the next put takes of a piece: as much as it is let and has room for
abbrev pub next_part : Puts → List ℕ → List ℕ
next_part s piece = take (min (unwrap_or (next_stop s) (length piece)) (s.room - length s.bytes)) piece

-- whether the next put fails: it is listed, or the piece goes past the room
abbrev pub is_next_failing : Puts → List ℕ → Bool
is_next_failing s piece = is_some (next_stop s) || nat_lt (s.room - length s.bytes) (length piece)
