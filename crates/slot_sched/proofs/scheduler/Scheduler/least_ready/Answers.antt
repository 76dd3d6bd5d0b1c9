-- The places are looked at in order.
use Rattle.std.proofs.Common.{◌≡◌, ◌∷◌, ◌<◌, length, Some, refl, sym, ◌∙◌, subst, arith}
use Rattle.std.specs.Prelude.{slice_get}
use Rattle.std.proofs.lemmas.Option.{slice_get_read}
use Rattle.slot_sched.proofs.Places.{AreLeft, all_left, first_best, passed}
use Rattle.slot_sched.proofs.scheduler.Scheduler.least_ready.Goals as goal

pub loop-who-init : goal.loop-who-init
loop-who-init g c =
    let s = c.args.self.now in
    let gives = c.into_iter-who-iterator.ensures.into_iter_gives in
    let lt : c.args.slot < length s.queues.items = omega (arith, c.requires.slot, s.queues_of_slots) in
    let is : slice_get s.queues.items c.args.slot ≡ Some c.index.result.now = slice_get_read s.queues.items (length s.queues.items) c.args.slot c.index.result.now refl lt c.index.ensures in
    subst (AreLeft s.core s.homes.items c.args.slot (length s.homes.items)) (sym gives.0)
    (all_left s.core s.homes.items c.args.slot (length s.homes.items) s.queues.items c.index.result.now c.requires.queued is gives.4 gives.5)

pub returns-then-may_go : goal.returns-then-may_go
returns-then-may_go g c =
    let s = c.args.self.now in
    let e : c.loop-who.who-iterator ≡ c.in-Some.field-0.now ∷ c.next.new.self = c.in-Some.ensures.steps in
    first_best s.core s.homes.items c.args.slot (length s.homes.items) c.in-Some.field-0.now c.next.new.self
    (subst (AreLeft s.core s.homes.items c.args.slot (length s.homes.items)) e c.loop-who.invariant) (sym c.may_go.ensures.value ∙ c.if-may_go.true)

pub loop-who-preserved : goal.loop-who-preserved
loop-who-preserved g c =
    let s = c.args.self.now in
    let e : c.loop-who.who-iterator ≡ c.in-Some.field-0.now ∷ c.next.new.self = c.in-Some.ensures.steps in
    passed s.core s.homes.items c.args.slot (length s.homes.items) c.in-Some.field-0.now c.next.new.self
    (subst (AreLeft s.core s.homes.items c.args.slot (length s.homes.items)) e c.loop-who.invariant) (sym c.may_go.ensures.value ∙ c.if-may_go.false)
