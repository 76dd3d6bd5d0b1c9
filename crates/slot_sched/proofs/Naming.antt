-- In a legal journal each quantum stands in a turn and names its slot.
use Rattle.std.proofs.Common.{◌≡◌, ◌∙◌, ℕ, ◌+◌, ◌-◌, Option, Some, None, List, [], ◌∷◌, sym, ap, subst, arith}
use Rattle.std.specs.Prelude.{if◌then◌else◌}
use Rattle.std.specs.List.{AllByRecursion}
use Rattle.std.proofs.lemmas.Bool.{cond-true}
use Rattle.host_journal.specs.Entries.{Entry, Host, Slot, Ran, End}
use Rattle.host_journal.specs.Named.{NamesSlots, IsEntry, IsHeadOfValues}
use Rattle.host_journal.specs.Texts.{journal_text}
use Rattle.host_journal.specs.declared.head.Head.{Head}
use Rattle.host_journal.proofs.TextLemmas.{journal_same}
use Rattle.slot_sched.specs.Legal.{Rules, At, IsLegal, IsLegalFrom, after, start}

-- the slot whose turn is open
abbrev turn_of : At → Option ℕ
turn_of at = if at.turn then Some (at.turns - 1) else None

names_from : (r : Rules) (es : List Entry) (at : At) → IsLegalFrom r at es → NamesSlots (turn_of at) es
names_from r [] at legal = tt
names_from r (Host t ∷ es) at legal = names_from r es (after at (Host t)) legal.1
names_from r (Slot s ∷ es) at legal =
    let e : s + 1 - 1 ≡ s = omega arith in
    subst (λ (i : ℕ). NamesSlots (Some i) es) e (names_from r es (after at (Slot s)) legal.1)
names_from r (Ran q recs ∷ es) at legal =
    let open_now : turn_of at ≡ Some (at.turns - 1) = cond-true at.turn (Some (at.turns - 1)) None legal.0.1.open_turn in
    let mine : at.turns - 1 ≡ q.slot = omega (arith, legal.0.1.slot) in
    (open_now ∙ ap Some mine, subst (λ (i : Option ℕ). NamesSlots i es) (sym open_now) (names_from r es (after at (Ran q recs)) legal.1))
names_from r (End ∷ es) at legal = names_from r es (after at End) legal.1

pub legal_named : (r : Rules) (es : List Entry) → IsLegal r es → NamesSlots None es
legal_named r es legal = names_from r es start legal

-- so what is printed of it fixes it
pub legal_same : (r s : Rules) (h k : Head) (es fs : List Entry) → IsLegal r es → IsLegal s fs → IsHeadOfValues h → IsHeadOfValues k → AllByRecursion IsEntry es → AllByRecursion IsEntry fs
    → journal_text h es ≡ journal_text k fs → es ≡ fs
legal_same r s h k es fs l m p q v w e =
    (journal_same h k es fs p q (record { values = v; named = legal_named r es l }) (record { values = w; named = legal_named s fs m }) e).1
