-- Frames that wait.
use Rattle.std.specs.Prelude.{ℕ, List, [], ◌∷◌, ◌++◌, length, slice_index_or}
use Rattle.trace_rec.specs.declared.rec.Rec.{Rec}
use Rattle.trace_rec.specs.declared.what.What.{What}
use Rattle.trace_rec.specs.declared.what.What.TheVariants as what

-- the first of them, where there is one
abbrev pub first_frame : List (List ℕ) → List ℕ
first_frame fs = slice_index_or fs 0 []

-- the record of a frame that is lost
abbrev pub lost_rec : ℕ → ℕ → List ℕ → Rec
lost_rec now nic f = record { tick = now; what = what.Backlogged nic (length f) }

-- the frames that records tell of as received
abbrev pub received : What → List (List ℕ)
received (what.Instr pc word) = []
received (what.Trap cause pc) = []
received (what.DiskDone disk kind sector bytes status) = []
received (what.Sent nic f) = []
received (what.Dropped nic len) = []
received (what.BadFrame nic len) = []
received (what.Received nic f) = f ∷ []
received (what.Backlogged nic len) = []
received (what.Uart byte) = []
received (what.Broken slot why) = []
received what.Halted = []

abbrev pub received_in : List Rec → List (List ℕ)
received_in [] = []
received_in (r ∷ rs) = received r.what ++ received_in rs
