use Rattle.std.proofs.Common.{◌≡◌, ◌+◌, ◌≤◌, ◌∙◌, Some, None, refl, sym, ap, subst, arith, inl, inr, slice_index, length}
use Rattle.std.proofs.lemmas.Bool.Decides.{eqb_tells}
use Rattle.std.proofs.lemmas.List.{get_or_read}
use Rattle.lookahead_core.specs.CoreWords.{ticks_done}
use Rattle.host_journal.specs.Entries.{Slot}
use Rattle.slot_sched.proofs.Came.{came_one, came_then, came_map}
use Rattle.slot_sched.proofs.Parts.{leaves_more, leaves_failed, works_on}
use Rattle.slot_sched.proofs.Serve.{slot_opens, serving_starts, serving_more, turn_full, turn_stuck, best_for}
use Rattle.slot_sched.proofs.scheduler.Scheduler.turn.Goals as goal

pub returns-clause-came : goal.returns-clause-came
returns-clause-came g c = λ x p k host at was es b some works has kept.
    let capacity = get_or_read c.args.self.now.capacities.items c.args.slot c.index-capacity.result.now c.requires.slot c.index-capacity.ensures 0 in
    came_map (c.loop-spent.invariant.came x p k host at was es b some works has kept)
    (λ at' s. turn_full x p k c.args.self.now.core c.loop-spent.self.core host c.args.slot c.loop-spent.spent at' s (omega (arith, capacity, ap (λ cs. slice_index cs c.args.slot) works.capacities)))

pub returns-in-None-clause-came : goal.returns-in-None-clause-came
returns-in-None-clause-came g c = λ x p k host at was es b some works has kept.
    came_map (c.loop-spent.invariant.came x p k host at was es b some works has kept)
    (λ at' s. turn_stuck x p k c.args.self.now.core c.loop-spent.self.core host c.args.slot c.loop-spent.spent at' s
    (best_for c.loop-spent.self p k c.args.slot None (works_on works c.loop-spent.invariant.left.same) c.in-None.ensures))

pub returns-in-Err-one_quantum-clause-came : goal.returns-in-Err-one_quantum-clause-came
returns-in-Err-one_quantum-clause-came g c = λ x p k host at was es b some works has kept.
    let capacity = get_or_read c.args.self.now.capacities.items c.args.slot c.index-capacity.result.now c.requires.slot c.index-capacity.ensures 0 in
    came_then (c.loop-spent.invariant.came x p k host at was es b some works has kept)
    (λ at' es' s kept'. c.in-Err-one_quantum.ensures.came x p k host c.loop-spent.spent at' was es' s.turn (works_on works c.loop-spent.invariant.left.same)
    (omega (arith, capacity, ap (λ cs. slice_index cs c.args.slot) works.capacities)) kept')

pub returns-in-Err-one_quantum-clause-left : goal.returns-in-Err-one_quantum-clause-left
returns-in-Err-one_quantum-clause-left g c = leaves_failed c.loop-spent.invariant.left c.in-Err-one_quantum.ensures.left

pub loop-spent-init : goal.loop-spent-init
loop-spent-init g c = record {
  left = record {
    same = record { count = refl; homes = refl; capacities = refl; target = refl };
    members_same = c.slot.ensures.members;
    head_same = c.slot.ensures.head;
    ready = c.requires.ready;
    queued = c.requires.queued;
    cause = record { later = omega (arith, c.in-Ok.ensures.cause.later); ok = c.in-Ok.ensures.cause.ok; no_memory = λ e. cc; failed = λ e. cc };
  };
  within = omega arith;
  early = λ i. omega arith;
  others = λ i ne. refl;
  came = λ x p k host at was es b some works has kept.
      let o = slot_opens x p c.args.self.now.core host c.args.slot at b some (omega (arith, ap length works.capacities, c.requires.slot)) in
      came_one (Slot c.args.slot) (c.slot.ensures.adds was es kept) o.0 (serving_starts x p k c.args.self.now.core host c.args.slot _ o.1 has);
}

pub loop-spent-preserved : goal.loop-spent-preserved
loop-spent-preserved g c =
    let inv = c.loop-spent.invariant in
    let ev = c.in-Ok-one_quantum.ensures in
    let home : slice_index c.args.self.now.homes.items c.in-Some.who ≡ c.args.slot = ap (λ hs. slice_index hs c.in-Some.who) (sym inv.left.same.homes) ∙ c.in-Some.ensures.home c.in-Some.who refl in
    record {
      left = leaves_more inv.left ev.left;
      within = omega (arith, inv.within, ev.used);
      early = λ i. elim (eqb_tells i c.in-Some.who) [
        | inl e ↦ subst (λ j. ticks_done c.one_quantum.new.self.core j ≤ ticks_done c.args.self.now.core j + (c.loop-spent.spent + c.in-Ok-one_quantum.used)) (sym e.1) (omega (arith, ev.few, inv.early c.in-Some.who))
        | inr e ↦ omega (arith, ev.others i e.1, inv.early i)
      ];
      others = λ i ne. ev.others i (λ e. ne (ap (λ j. slice_index c.args.self.now.homes.items j) e ∙ home)) ∙ inv.others i ne;
      came = λ x p k host at was es b some works has kept.
          let works' = works_on works inv.left.same in
          let capacity = get_or_read c.args.self.now.capacities.items c.args.slot c.index-capacity.result.now c.requires.slot c.index-capacity.ensures 0 in
          came_then (inv.came x p k host at was es b some works has kept)
          (λ at' es' s kept'. came_map (ev.came x p k host c.loop-spent.spent at' was es' s.turn works' (omega (arith, capacity, ap (λ cs. slice_index cs c.args.slot) works.capacities)) kept')
          (λ at'' d. serving_more x p k c.args.self.now.core c.loop-spent.self.core c.one_quantum.new.self.core host c.args.slot c.in-Some.who c.loop-spent.spent c.in-Ok-one_quantum.used at' at'' s
          (best_for c.loop-spent.self p k c.args.slot (Some c.in-Some.who) works' c.in-Some.ensures) d));
    }
