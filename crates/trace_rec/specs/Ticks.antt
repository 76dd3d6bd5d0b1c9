-- Records of one tick.
use Rattle.std.specs.Prelude.{◌≡◌, ℕ, List}
use Rattle.std.specs.List.{AllByRecursion}
use Rattle.trace_rec.specs.declared.rec.Rec.{Rec}

abbrev pub IsOf : ℕ → Rec → Type 0
IsOf tick rec = rec.tick ≡ tick

-- each of them names this tick
abbrev pub AreOf : ℕ → List Rec → Type 0
AreOf tick recs = AllByRecursion (IsOf tick) recs
