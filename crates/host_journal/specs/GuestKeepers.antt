-- What a keeper of each guest's first ticks is.
use Rattle.std.specs.Prelude.{◌≡◌, ℕ, List, [], Option, Bool, false}
use Rattle.tb_io.specs.Puts.{Takes}
use Rattle.host_journal.specs.Entries.{Entry}
use Rattle.host_journal.specs.Guests.{ticks_shown, recs_below, guests_of}
use Rattle.host_journal.specs.Holding.{Holds}
use Rattle.host_journal.specs.declared.guest_keep.GuestKeep.{GuestKeep}
use Rattle.host_journal.specs.declared.head.Head.{Head}
use Rattle.host_journal.specs.declared.held.Held.{Ghosts}

abbrev pub head_of : {H : Type 0} {G : Ghosts H} → GuestKeep H G → Head
head_of keep = keep.head

abbrev pub has_failed : {H : Type 0} {G : Ghosts H} → GuestKeep H G → Bool
has_failed keep = keep.failed

abbrev pub text_of : {H : Type 0} {G : Ghosts H} → GuestKeep H G → List Entry → List ℕ
text_of {H} {G} keep es = guests_of G.title G.shown (head_of keep) es

-- keeper and sink stand for these entries: nothing was put, and the keeper holds the records that are to be shown, unless it failed
pub record Gathers {H : Type 0} {G : Ghosts H} (keep : GuestKeep H G) (before now : Option (List ℕ)) (es : List Entry) : Type 0 where
  pub nothing : Takes before now []
  pub has : has_failed keep ≡ false → Holds G.has keep.held.items (recs_below (ticks_shown (head_of keep)) es)

-- no record was held, and nothing failed
abbrev pub IsEmpty : {H : Type 0} {G : Ghosts H} → GuestKeep H G → Type 0
IsEmpty {H} {G} keep = (has_failed keep ≡ false) × Holds G.has keep.held.items (λ _. [])
