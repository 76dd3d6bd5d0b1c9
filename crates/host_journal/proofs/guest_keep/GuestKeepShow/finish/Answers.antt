-- What was gathered is put.
use Rattle.std.proofs.Common.{sym, subst}
use Rattle.std.proofs.lemmas.Result.{on_ok_weaker}
use Rattle.host_journal.specs.Guests.{ticks_shown, recs_below}
use Rattle.host_journal.specs.Holding.{Holds}
use Rattle.host_journal.proofs.HeldLemmas.{text_whole, text_part}
use Rattle.host_journal.proofs.guest_keep.GuestKeepShow.finish.Goals as goal

pub returns-clause-part : goal.returns-clause-part
returns-clause-part g c = λ before es gathers.
    text_part g.H.Held.has g.H.Held.title g.H.Held.shown c.args.self.now.head c.deref.result.now c.args.self.now.failed c.put_guests_text.new.failed (g.O.Sink.taken c.args.out.now) (g.O.Sink.taken c.put_guests_text.new.out) before es
    c.put_guests_text.ensures.adds c.put_guests_text.ensures.stopped gathers.nothing
    (λ e. subst (λ hs. Holds g.H.Held.has hs (recs_below (ticks_shown c.args.self.now.head) es)) (sym c.deref.ensures.value) (gathers.has e))

pub returns-clause-whole : goal.returns-clause-whole
returns-clause-whole g c = on_ok_weaker c.put_guests_text.result (λ whole. λ before es gathers.
    text_whole g.H.Held.has g.H.Held.title g.H.Held.shown c.args.self.now.head c.deref.result.now c.args.self.now.failed c.put_guests_text.new.failed (g.O.Sink.taken c.args.out.now) (g.O.Sink.taken c.put_guests_text.new.out) before es
    c.put_guests_text.ensures.adds whole.0 whole.1 gathers.nothing
    (λ e. subst (λ hs. Holds g.H.Held.has hs (recs_below (ticks_shown c.args.self.now.head) es)) (sym c.deref.ensures.value) (gathers.has e))) c.put_guests_text.ensures.ok
