-- What a node does that sleeps but for the tick of its alarm and the ticks in which a frame arrives.
use Rattle.std.specs.Prelude.{ℕ, Bool, false, ◌==◌, ◌||◌, nat_lt, [], ◌∷◌, length, replicate, if◌then◌else◌}
use Rattle.trace_rec.specs.declared.what.What.TheVariants.{Uart}
use Rattle.lookahead_core.specs.Lists.{list_at}
use Rattle.lookahead_core.specs.Motion.{Motion}

-- its state is its rate, the tick of its alarm, and whether it is awake: then its steps are busy, it sends a frame and gives a record
abbrev pub dozing : Motion (ℕ × ℕ × Bool)
dozing = record {
  rate = λ s. s.0;
  nics = λ s. 1;
  begin = λ s n arrivals. (s.0, s.1, (s.1 == n) || nat_lt 0 (length (list_at arrivals 0)));
  busy = λ s. s.2;
  step = λ s. s;
  end = λ s n. (s.0, s.1, false);
  left = λ s n. (if s.2 then replicate 14 0 ∷ [] else []) ∷ [];
  recs = λ s n. if s.2 then record { tick = n; what = Uart 1 } ∷ [] else [];
}
