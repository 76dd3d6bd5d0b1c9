-- What a node does all of whose ticks are alike.
use Rattle.std.specs.Prelude.{ℕ, Bool, []}
use Rattle.lookahead_core.specs.Motion.{Motion}

-- its state is its rate, and whether its steps are busy: it stays as it is, gives no record and sends nothing
abbrev pub steady : Motion (ℕ × Bool)
steady = record {
  rate = λ s. s.0;
  nics = λ s. 0;
  begin = λ s n arrivals. s;
  busy = λ s. s.1;
  step = λ s. s;
  end = λ s n. s;
  left = λ s n. [];
  recs = λ s n. [];
}
