-- The traces: a head line, then of each guest its line and those of its records, then the end.
use Rattle.std.specs.Prelude.{ℕ, List, ◌++◌, codes}
use Rattle.std.specs.List.{filter}
use Rattle.trace_rec.specs.Shown.{is_shown}
use Rattle.trace_rec.specs.declared.rec.Rec.{Rec}
use Rattle.trace_rec.specs.declared.view.View.TheVariants.{Traces}
use Rattle.host_journal.specs.declared.head.Head.{Head}
use Rattle.host_journal.specs.Entries.{Entry}
use Rattle.host_journal.specs.Guests.{guests_of, guest_words}
use Rattle.host_journal.specs.Texts.{rec_lines}

abbrev pub traces_title : List ℕ
traces_title = codes "traces guests "

unfoldable pub guest_line : ℕ → List ℕ → List ℕ
guest_line g name = codes "guest " ++ guest_words g name ++ codes "\n"

-- the lines of a guest's records
abbrev pub trace_lines : ℕ → List Rec → List ℕ
trace_lines g recs = rec_lines g (filter (is_shown Traces) recs)

-- what stands of a guest
abbrev pub guest_trace : ℕ → List ℕ → List Rec → List ℕ
guest_trace g name recs = guest_line g name ++ trace_lines g recs

-- the traces of a run's entries
abbrev pub traces_of : Head → List Entry → List ℕ
traces_of h es = guests_of traces_title guest_trace h es
