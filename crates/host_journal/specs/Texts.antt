-- The text of a journal and of events. Each line ends with one newline, and all its numbers are decimal.
use Rattle.std.specs.Prelude.{ℕ, List, ◌++◌, length, codes}
use Rattle.std.specs.List.{filter, flat_map}
use Rattle.trace_rec.specs.Lines.{field, rec_line}
use Rattle.trace_rec.specs.Shown.{is_shown}
use Rattle.trace_rec.specs.declared.rec.Rec.{Rec}
use Rattle.trace_rec.specs.declared.view.View.{View}
use Rattle.trace_rec.specs.declared.view.View.TheVariants.{Journal}
use Rattle.host_journal.specs.declared.quantum.Quantum.{Quantum}
use Rattle.host_journal.specs.declared.head.Head.{Head}
use Rattle.host_journal.specs.Entries.{Entry, Host, Slot, Ran, End}

-- how many slots and guests there are
unfoldable pub size_words : Head → List ℕ
size_words h = field (codes " slots ") h.slots ++ field (codes " guests ") (length h.names.items)

-- the form's version, the factor, the sizes, and how many host ticks are to run
abbrev pub head_line : Head → List ℕ
head_line h = field (codes "diecast 1 factor ") h.factor ++ size_words h ++ field (codes " host ") h.host_ticks ++ codes "\n"

-- a host tick begins
abbrev pub host_line : ℕ → List ℕ
host_line t = field (codes "host ") t ++ codes "\n"

-- the turn of a slot begins
abbrev pub slot_line : ℕ → List ℕ
slot_line s = field (codes "slot ") s ++ codes "\n"

-- a guest ran so many units and has then done so many ticks
abbrev pub quantum_line : Quantum → List ℕ
quantum_line q =
    field (codes "run ") q.guest ++ field (codes " units ") q.units ++ field (codes " done ") q.done ++ codes "\n"

-- the run is at its end after so many host ticks
abbrev pub end_line : ℕ → List ℕ
end_line t = field (codes "end ") t ++ codes "\n"

-- the records of a guest, a line each
abbrev pub rec_lines : ℕ → List Rec → List ℕ
rec_lines guest recs = flat_map (rec_line guest) recs

-- the lines of an entry, with those records that the view shows
abbrev pub entry_lines : View → Head → Entry → List ℕ
entry_lines v h (Host t) = host_line t
entry_lines v h (Slot s) = slot_line s
entry_lines v h (Ran q recs) = quantum_line q ++ rec_lines q.guest (filter (is_shown v) recs)
entry_lines v h End = end_line h.host_ticks

-- the journal, or the events: the head line, and then the lines of each entry
unfoldable pub entries_text : View → Head → List Entry → List ℕ
entries_text v h es = head_line h ++ flat_map (entry_lines v h) es

-- a journal shows all records
abbrev pub journal_text : Head → List Entry → List ℕ
journal_text h es = entries_text Journal h es
