-- Journals of values, in which each quantum names the slot of its turn.
use Rattle.std.specs.Prelude.{◌≡◌, ℕ, ◌<◌, ◌^◌, List, [], ◌∷◌, length, Option, Some, None}
use Rattle.std.specs.List.{AllByRecursion}
use Rattle.trace_rec.specs.Values.{IsRec}
use Rattle.host_journal.specs.declared.head.Head.{Head}
use Rattle.host_journal.specs.Entries.{Entry, Host, Slot, Ran, End}

-- a quantum stands in a turn, and names its slot; the turn is that of the last slot before it in its host tick
abbrev pub NamesSlots : Option ℕ → List Entry → Type 0
NamesSlots turn [] = Unit {0}
NamesSlots turn (Host t ∷ es) = NamesSlots None es
NamesSlots turn (Slot s ∷ es) = NamesSlots (Some s) es
NamesSlots turn (Ran q recs ∷ es) = (turn ≡ Some q.slot) × NamesSlots turn es
NamesSlots turn (End ∷ es) = NamesSlots None es

-- each number is a value of its type
abbrev pub IsEntry : Entry → Type 0
IsEntry (Host t) = t < 2 ^ 64
IsEntry (Slot s) = s < 2 ^ 32
IsEntry (Ran q recs) = (q.guest < 2 ^ 32) × (q.units < 2 ^ 64) × (q.done < 2 ^ 64) × AllByRecursion IsRec recs
IsEntry End = Unit {0}

-- a journal of values that may be printed
pub record IsPrintable (es : List Entry) : Type 0 where
  pub values : AllByRecursion IsEntry es
  pub named : NamesSlots None es

pub record IsHeadOfValues (h : Head) : Type 0 where
  pub factor : h.factor < 2 ^ 64
  pub slots : h.slots < 2 ^ 32
  pub guests : length h.names.items < 2 ^ 64
  pub host_ticks : h.host_ticks < 2 ^ 64

-- the same numbers
pub record SameNumbers (h k : Head) : Type 0 where
  pub factor : h.factor ≡ k.factor
  pub slots : h.slots ≡ k.slots
  pub guests : length h.names.items ≡ length k.names.items
  pub host_ticks : h.host_ticks ≡ k.host_ticks
