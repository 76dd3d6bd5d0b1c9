-- How entries that came are put together.
use Rattle.std.proofs.Common.{◌≡◌, List, [], ◌∷◌, ◌++◌, refl, sym, subst, append-nil, append_assoc}
use Rattle.host_journal.specs.Entries.{Entry}
use Rattle.slot_sched.specs.Legal.{Rules, At, MayCome, after, after_all, Came, IsLegalFrom}

pub legal_all : (r : Rules) (at : At) (es fs : List Entry) → IsLegalFrom r at es → IsLegalFrom r (after_all at es) fs → IsLegalFrom r at (es ++ fs)
legal_all r at [] fs l m = m
legal_all r at (e ∷ es) fs l m = (l.0, legal_all r (after at e) es fs l.1 m)

pub after_more : (at : At) (es fs : List Entry) → after_all at (es ++ fs) ≡ after_all (after_all at es) fs
after_more at [] fs = refl
after_more at (e ∷ es) fs = after_more (after at e) es fs

module _ {r : Rules} {kept : List Entry → Type 0} {at : At} {es : List Entry} {P : At → Type 0} where
  -- one entry more
  pub came_one : (e : Entry) → kept (es ++ e ∷ []) → MayCome r at e → P (after at e) → Came r kept at es P
  came_one e held may there = record { added = e ∷ []; held = held; legal = (may, tt); there = there }

  -- none
  pub came_none : kept es → P at → Came r kept at es P
  came_none held there = record { added = []; held = subst kept (sym (append-nil es)) held; legal = tt; there = there }

  -- these, and then more
  pub came_then : {kept' : List Entry → Type 0} {Q : At → Type 0} → Came r kept at es P → ((at' : At) (es' : List Entry) → P at' → kept es' → Came r kept' at' es' Q) → Came r kept' at es Q
  came_then {kept'} {Q} c more =
      let d = more (after_all at c.added) (es ++ c.added) c.there c.held in
      record {
        added = c.added ++ d.added;
        held = subst kept' (append_assoc es c.added d.added) d.held;
        legal = legal_all r at c.added d.added c.legal d.legal;
        there = subst Q (sym (after_more at c.added d.added)) d.there;
      }

  -- what holds where the journal stands is weakened
  pub came_map : {Q : At → Type 0} → Came r kept at es P → ((at' : At) → P at' → Q at') → Came r kept at es Q
  came_map c f = record { added = c.added; held = c.held; legal = c.legal; there = f (after_all at c.added) c.there }
