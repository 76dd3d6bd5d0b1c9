-- The text of a run in each view.
use Rattle.std.specs.Prelude.{◌≡◌, ℕ, List}
use Rattle.trace_rec.specs.declared.rec.Rec.{Rec}
use Rattle.trace_rec.specs.declared.view.View.{View}
use Rattle.trace_rec.specs.declared.view.View.TheVariants.{Journal, Events, Traces, Summary}
use Rattle.host_journal.specs.Entries.{Entry}
use Rattle.host_journal.specs.Guests.{ticks_shown, guests_text}
use Rattle.host_journal.specs.Summaries.{summary_title, guest_summary}
use Rattle.host_journal.specs.Texts.{entries_text}
use Rattle.host_journal.specs.Traces.{traces_title, guest_trace}
use Rattle.host_journal.specs.declared.head.Head.{Head}
use Rattle.slot_sched.specs.Legal.{Rules}

-- the trace of each guest up to the tick that all guests have done when the run is at its end
abbrev pub traces_shown : Head → Rules → ℕ → List Rec
traces_shown h r g = r.trace g (ticks_shown h)

-- the journal and the events are of the entries; the traces and the summary are of the synchronous system alone, and the entries give nothing to them
abbrev pub text : View → Head → Rules → List Entry → List ℕ
text Journal h r es = entries_text Journal h es
text Events h r es = entries_text Events h es
text Traces h r es = guests_text traces_title guest_trace h (traces_shown h r)
text Summary h r es = guests_text summary_title guest_summary h (traces_shown h r)

-- the view is a text of all guests, with this title and this of each guest
abbrev pub ShowsGuests : View → List ℕ → (ℕ → List ℕ → List Rec → List ℕ) → Type 0
ShowsGuests view title shown = (h : Head) (r : Rules) (es : List Entry) → text view h r es ≡ guests_text title shown h (traces_shown h r)
