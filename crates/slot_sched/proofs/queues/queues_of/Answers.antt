-- The next node is put into the set of its slot.
use Rattle.std.proofs.Common.{◌≡◌, ℕ, ◌<◌, length, Some, refl, ◌∙◌, arith, slice_index}
use Rattle.std.specs.Prelude.{slice_get}
use Rattle.std.proofs.lemmas.List.{length-set}
use Rattle.std.proofs.lemmas.Option.{slice_get_read}
use Rattle.lookahead_core.specs.CoreWords.{ticks_done}
use Rattle.slot_sched.proofs.Places.{queued_more}
use Rattle.slot_sched.proofs.queues.queues_of.Goals as goal

pub loop-who-preserved : goal.loop-who-preserved
loop-who-preserved g c =
    let l = c.loop-who in
    let homes = c.args.homes.now in
    let home : ℕ = slice_index homes l.who in
    let lt : home < length l.queues.items = omega (arith, l.invariant.length, c.requires.homed l.who c.loop-who-test.true) in
    let at : slice_get l.queues.items home ≡ Some c.index_mut.result.now = slice_get_read l.queues.items (length l.queues.items) home c.index_mut.result.now refl lt c.index_mut.ensures.value in
    record {
      length = length-set l.queues.items home c.insert.new.self ∙ l.invariant.length;
      queued = queued_more (ticks_done c.args.core.now) homes l.who home c.done.result l.queues.items c.index_mut.result.now c.insert.new.self refl c.done.ensures l.invariant.queued at c.in-Ok.ensures.updates.0;
    }
