-- What is held of guests.
use Rattle.std.specs.Prelude.{◌≡◌, ℕ, List, Some, slice_get}
use Rattle.trace_rec.specs.declared.rec.Rec.{Rec}

-- of each guest it is what is held of its records
abbrev pub Holds : {H : Type 0} → (H → List Rec → Type 0) → List H → (ℕ → List Rec) → Type 0
Holds {H} has held recs = (g : ℕ) (x : H) → slice_get held g ≡ Some x → has x (recs g)
