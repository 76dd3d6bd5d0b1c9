use Rattle.std.proofs.Common.{rules, List, ℕ, length, subst}
use Rattle.host_journal.specs.Guests.{texts_below, guest_text, guests_head, guests_text, end_word}
use Rattle.host_journal.specs.Standing.{Adds}
use Rattle.host_journal.proofs.GuestLemmas.{three_cut, three_short, three_whole}
use Rattle.host_journal.proofs.guest_texts.put_guests_text.Goals as goal

pub returns-in_err-put_line-clause-adds : goal.returns-in_err-put_line-clause-adds
unfolding guests_text
returns-in_err-put_line-clause-adds g c = λ recs holds.
    let first = guests_head g.H.Held.title c.args.head.now in
    three_cut c.args.failed.now c.put_line.new.failed (g.O.Sink.taken c.args.out.now) (g.O.Sink.taken c.put_line.new.out)
    first (texts_below (guest_text g.H.Held.shown c.args.head.now.names.items recs) (length c.args.head.now.names.items)) end_word
    c.in_err-put_line.ensures.err (c.in_err-put_line.ensures.adds first (search rules))

pub returns-in_err-put_guests-clause-adds : goal.returns-in_err-put_guests-clause-adds
unfolding guests_text
returns-in_err-put_guests-clause-adds g c = λ recs holds.
    let first = guests_head g.H.Held.title c.args.head.now in
    three_short c.args.failed.now c.put_line.new.failed c.put_guests.new.failed (g.O.Sink.taken c.args.out.now) (g.O.Sink.taken c.put_line.new.out) (g.O.Sink.taken c.put_guests.new.out)
    first (texts_below (guest_text g.H.Held.shown c.args.head.now.names.items recs) (length c.args.head.now.names.items)) end_word
    c.in_err-put_guests.ensures.err (c.in_ok-put_line.ensures.adds first (search rules))
    (subst (λ (ns : List (List ℕ)). Adds c.put_line.new.failed (g.O.Sink.taken c.put_line.new.out) c.put_guests.new.failed (g.O.Sink.taken c.put_guests.new.out) (texts_below (guest_text g.H.Held.shown ns recs) (length ns)))
    c.as_slice.ensures (c.in_err-put_guests.ensures.adds recs holds))

pub returns-clause-adds : goal.returns-clause-adds
unfolding guests_text
returns-clause-adds g c = λ recs holds.
    let first = guests_head g.H.Held.title c.args.head.now in
    three_whole c.args.failed.now c.put_line.new.failed c.put_guests.new.failed c.put_line-2.new.failed (g.O.Sink.taken c.args.out.now) (g.O.Sink.taken c.put_line.new.out) (g.O.Sink.taken c.put_guests.new.out) (g.O.Sink.taken c.put_line-2.new.out)
    first (texts_below (guest_text g.H.Held.shown c.args.head.now.names.items recs) (length c.args.head.now.names.items)) end_word
    (c.in_ok-put_line.ensures.adds first (search rules))
    (subst (λ (ns : List (List ℕ)). Adds c.put_line.new.failed (g.O.Sink.taken c.put_line.new.out) c.put_guests.new.failed (g.O.Sink.taken c.put_guests.new.out) (texts_below (guest_text g.H.Held.shown ns recs) (length ns)))
    c.as_slice.ensures (c.in_ok-put_guests.ensures.adds recs holds))
    (c.put_line-2.ensures.adds end_word (search rules))
