-- What the core did may come next in a legal journal, and the node is queued at its new count.
use Rattle.std.proofs.Common.{◌≡◌, ◌<◌, length, Some, refl, ◌∙◌, ap, arith, slice_index}
use Rattle.std.specs.Prelude.{slice_get}
use Rattle.std.proofs.lemmas.Option.{slice_get_read}
use Rattle.lookahead_core.specs.CoreWords.{ticks_done}
use Rattle.slot_sched.specs.Queues.{AreQueued}
use Rattle.slot_sched.proofs.Places.{requeued}
use Rattle.slot_sched.proofs.Comes.{quantum_came}
use Rattle.slot_sched.proofs.scheduler.Scheduler.one_quantum.Goals as goal

pub returns-in-Ok-quantum-clause-came : goal.returns-in-Ok-quantum-clause-came
returns-in-Ok-quantum-clause-came g c = λ x p k host spent at was es in' works room kept.
    let ev = c.in-Ok.ensures in
    quantum_came x c.args.self.now c.go_on.new.self p k host c.args.slot spent c.args.who c.args.units c.in-Ok.used c.done-done.result at es _ _ in' works c.requires.home room
    c.requires.who ev.used ev.ready.rests (ev.went x in'.here.stands) c.done-done.ensures (c.quantum.ensures.adds was es kept) (λ s. s)

pub returns-in-Err-quantum-clause-came : goal.returns-in-Err-quantum-clause-came
returns-in-Err-quantum-clause-came g c = λ x p k host spent at was es in' works room kept.
    let ev = c.in-Ok.ensures in
    quantum_came x c.args.self.now c.go_on.new.self p k host c.args.slot spent c.args.who c.args.units c.in-Ok.used c.done-done.result at es _ _ in' works c.requires.home room
    c.requires.who ev.used ev.ready.rests (ev.went x in'.here.stands) c.done-done.ensures (c.quantum.ensures.adds was es kept) (λ _. tt)

pub returns-in-Ok-quantum-clause-left : goal.returns-in-Ok-quantum-clause-left
returns-in-Ok-quantum-clause-left g c =
    let s = c.args.self.now in
    let mid = c.go_on.new.self in
    let ev = c.in-Ok.ensures in
    let lt : c.args.slot < length mid.queues.items = omega (arith, c.requires.slot, mid.queues_of_slots, ap length ev.same.capacities) in
    let at : slice_get mid.queues.items c.args.slot ≡ Some c.index_mut.result.now = slice_get_read mid.queues.items (length mid.queues.items) c.args.slot c.index_mut.result.now refl lt c.index_mut.ensures.value in
    let queued : AreQueued (ticks_done s.core) mid.homes.items (length mid.homes.items) mid.queues.items = rw (ev.same.homes, ev.queues) c.requires.queued in
    let who : c.args.who < length mid.homes.items = omega (arith, c.requires.who, s.homed, ap length ev.same.homes) in
    let home : slice_index mid.homes.items c.args.who ≡ c.args.slot = ap (λ hs. slice_index hs c.args.who) ev.same.homes ∙ c.requires.home in
    record {
      same = record { count = ev.same.count; homes = ev.same.homes; capacities = ev.same.capacities; target = ev.same.target };
      members_same = c.quantum.ensures.members;
      head_same = c.quantum.ensures.head;
      ready = ev.ready;
      queued = requeued (ticks_done s.core) (ticks_done mid.core) mid.homes.items (length mid.homes.items) c.args.slot c.args.who c.done-was.result c.done-done.result mid.queues.items c.index_mut.result.now c.requeue.new.queue
          who home ev.others c.done-was.ensures c.done-done.ensures queued at c.in-Ok-requeue.ensures;
      cause = record { later = omega (arith, c.in-Ok-quantum.ensures.cause.later); ok = c.in-Ok-quantum.ensures.cause.ok; no_memory = λ e. cc; failed = λ e. cc };
    }
