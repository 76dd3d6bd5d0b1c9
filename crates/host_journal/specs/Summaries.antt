-- The summary: a head line, a line of each guest with how many records of each kind it has, and the end.
use Rattle.std.specs.Prelude.{ℕ, List, codes}
use Rattle.trace_rec.specs.declared.rec.Rec.{Rec}
use Rattle.host_journal.specs.Entries.{Entry}
use Rattle.host_journal.specs.Guests.{guests_of}
use Rattle.host_journal.specs.Tallies.{counts_of, summary_line}
use Rattle.host_journal.specs.declared.head.Head.{Head}

abbrev pub summary_title : List ℕ
summary_title = codes "summary guests "

-- what stands of a guest: a line with the counts of its records
abbrev pub guest_summary : ℕ → List ℕ → List Rec → List ℕ
guest_summary g name recs = summary_line g name (counts_of recs)

-- the summary of a run's entries
abbrev pub summary_of : Head → List Entry → List ℕ
summary_of h es = guests_of summary_title guest_summary h es
