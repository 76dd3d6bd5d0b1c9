-- What is held of the guest gets the records that are to be shown.
use Rattle.std.proofs.Common.{◌∙◌, ◌<◌, ◌++◌, List, Some, length, ap, sym, subst, arith}
use Rattle.std.specs.List.{filter}
use Rattle.std.proofs.lemmas.Option.{slice_get-get_or}
use Rattle.trace_rec.specs.declared.rec.Rec.{Rec}
use Rattle.host_journal.specs.Guests.{is_below, ticks_shown}
use Rattle.host_journal.proofs.HeldLemmas.{holds_more}
use Rattle.host_journal.proofs.guest_keep.GuestKeepKeep.quantum.Goals as goal

pub returns-in-Ok-clause-adds : goal.returns-in-Ok-clause-adds
returns-in-Ok-clause-adds g c = λ before es gathers. record {
  nothing = gathers.nothing;
  has = λ whole.
      let within : c.args.q.now.guest < length c.args.self.now.held.items = omega (arith, c.requires, c.args.self.now.one_each) in
      let k = ticks_shown c.args.self.now.head in
      holds_more g.H.Held.has k c.args.self.now.held.items es c.args.q.now c.args.recs.now.items c.index_mut-held.result.now c.add.new.self
      (slice_get-get_or c.args.self.now.held.items c.args.q.now.guest _ within ∙ ap Some (sym c.index_mut-held.ensures.value))
      (λ kept was. subst (λ (x : List Rec). g.H.Held.has c.add.new.self (kept ++ filter (is_below k) x)) c.as_slice.ensures (c.in-Ok.ensures kept was)) (gathers.has whole);
}
