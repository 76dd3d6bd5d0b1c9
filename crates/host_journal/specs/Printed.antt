-- What entries print of a guest.
use Rattle.std.specs.Prelude.{ℕ, ◌+◌, ◌==◌, Bool, true, false, List, [], ◌∷◌, if◌then◌else◌}
use Rattle.std.specs.List.{flat_map, fold, sum_by}
use Rattle.trace_rec.specs.declared.rec.Rec.{Rec}
use Rattle.host_journal.specs.Entries.{Entry, Host, Slot, Ran, End}

-- the records of its quanta, in order
abbrev pub entry_recs : ℕ → Entry → List Rec
entry_recs g (Host t) = []
entry_recs g (Slot s) = []
entry_recs g (Ran q recs) = if q.guest == g then recs else []
entry_recs g End = []

abbrev pub recs_of : ℕ → List Entry → List Rec
recs_of g es = flat_map (entry_recs g) es

-- their units together
abbrev pub entry_units : ℕ → Entry → ℕ
entry_units g (Host t) = 0
entry_units g (Slot s) = 0
entry_units g (Ran q recs) = if q.guest == g then q.units else 0
entry_units g End = 0

abbrev pub units_of : ℕ → List Entry → ℕ
units_of g es = sum_by (entry_units g) es

-- its count by the last of them, 0 before the first
abbrev pub count_after : ℕ → ℕ → Entry → ℕ
count_after g n (Host t) = n
count_after g n (Slot s) = n
count_after g n (Ran q recs) = if q.guest == g then q.done else n
count_after g n End = n

abbrev pub count_of : ℕ → List Entry → ℕ
count_of g es = fold (count_after g) 0 es

-- host tick t is over with this entry: the next one begins, or the run is at its end
abbrev pub is_past : ℕ → Entry → Bool
is_past t (Host u) = u == t + 1
is_past t (Slot s) = false
is_past t (Ran q recs) = false
is_past t End = true

-- the entries up to the end of host tick t
abbrev pub up_to_tick : ℕ → List Entry → List Entry
up_to_tick t [] = []
up_to_tick t (e ∷ es) = if is_past t e then [] else e ∷ up_to_tick t es
