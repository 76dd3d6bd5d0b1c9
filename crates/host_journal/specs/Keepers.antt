-- What a keeper of a journal is.
use Rattle.std.specs.Prelude.{◌≡◌, ℕ, List, Option, Bool, true, false, Result, OnOk, OnErr}
use Rattle.tb_io.specs.declared.write_err.WriteErr.{WriteErr}
use Rattle.trace_rec.specs.declared.view.View.{View}
use Rattle.host_journal.specs.Entries.{Entry}
use Rattle.host_journal.specs.Standing.{Stands}
use Rattle.host_journal.specs.Texts.{entries_text}
use Rattle.host_journal.specs.declared.head.Head.{Head}
use Rattle.host_journal.specs.declared.journal_keep.JournalKeep.{JournalKeep}

-- what the keeper was made with
abbrev pub head_of : JournalKeep → Head
head_of keep = keep.head

abbrev pub view_of : JournalKeep → View
view_of keep = keep.view

-- what its text needs besides the entries
abbrev pub heading_of : JournalKeep → Head × View
heading_of keep = (head_of keep, view_of keep)

-- whether a call of the keeper has failed
abbrev pub has_failed : JournalKeep → Bool
has_failed keep = keep.failed

-- the text of a list of entries in the keeper's view
abbrev pub text_of : JournalKeep → List Entry → List ℕ
text_of keep es = entries_text (view_of keep) (head_of keep) es

-- keeper and sink stand for these entries: since it told the bytes of before, the sink has taken
-- their text, or a prefix of it where a call failed
abbrev pub StandsFor : JournalKeep → Option (List ℕ) → Option (List ℕ) → List Entry → Type 0
StandsFor keep before now es = Stands (has_failed keep) before now (text_of keep es)

-- a call of the keeper succeeds only where none failed before; after a failed one each fails, and puts nothing
pub record StaysFailed (old new : JournalKeep) (taken taken' : Option (List ℕ)) (result : Result (Unit {0}) WriteErr) : Type 0 where
  pub ok : OnOk result ((has_failed old ≡ false) × (has_failed new ≡ false))
  pub err : OnErr result (has_failed new ≡ true)
  pub stopped : has_failed old ≡ true → taken' ≡ taken
