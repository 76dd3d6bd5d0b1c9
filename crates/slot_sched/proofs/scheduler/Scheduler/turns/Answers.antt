use Rattle.std.proofs.Common.{◌≡◌, ℕ, ◌∙◌, ap, arith, subst, length, inl, inr, slice_index}
use Rattle.std.proofs.lemmas.Bool.Decides.{eqb_tells}
use Rattle.slot_sched.specs.Turns.{TurnsDone}
use Rattle.slot_sched.proofs.Came.{came_then, came_map}
use Rattle.slot_sched.proofs.Parts.{leaves_then, works_on}
use Rattle.slot_sched.proofs.Serve.{turns_more}
use Rattle.slot_sched.proofs.scheduler.Scheduler.turns.Goals as goal

pub returns-clause-came : goal.returns-clause-came
returns-clause-came g c = λ x p k host at was es b some works has kept.
    let all : c.loop-slot.slot ≡ length p.capacities = omega (arith, ap length works.capacities, c.args.self.now.capacities.ok.0) in
    came_map (c.loop-slot.invariant.came x p k host at was es b some works has kept)
    (λ at' d. subst (λ n. TurnsDone x c.args.self.now.core c.loop-slot.self.core p host n k at') all d)

pub returns-in-Err-clause-came : goal.returns-in-Err-clause-came
returns-in-Err-clause-came g c = λ x p k host at was es b some works has kept.
    came_then (c.loop-slot.invariant.came x p k host at was es b some works has kept)
    (λ at' es' d kept'. c.in-Err.ensures.came x p k host at' was es' d.between some (works_on works c.loop-slot.invariant.left.same) d.has_done kept')

pub returns-in-Err-clause-left : goal.returns-in-Err-clause-left
returns-in-Err-clause-left g c = leaves_then c.loop-slot.invariant.left c.in-Err.ensures.left

pub loop-slot-preserved : goal.loop-slot-preserved
loop-slot-preserved g c =
    let inv = c.loop-slot.invariant in
    let ev = c.in-Ok.ensures in
    let home : (i : ℕ) → slice_index c.loop-slot.self.homes.items i ≡ slice_index c.args.self.now.homes.items i = λ i. ap (λ hs. slice_index hs i) inv.left.same.homes in
    record {
      left = leaves_then inv.left ev.left;
      early = λ i. elim (eqb_tells (slice_index c.loop-slot.self.homes.items i) c.loop-slot.slot) [
        | inl e ↦ omega (arith, ev.early i, inv.untouched i (omega (arith, home i, e.1)))
        | inr e ↦ omega (arith, ev.others i e.1, inv.early i)
      ];
      untouched = λ i le. ev.others i (λ e. absurd (omega (arith, home i, e, le))) ∙ inv.untouched i (omega (arith, le));
      came = λ x p k host at was es b some works has kept.
          came_then (inv.came x p k host at was es b some works has kept)
          (λ at' es' d kept'. came_map (ev.came x p k host at' was es' d.between some (works_on works inv.left.same) d.has_done kept')
          (λ at'' t. turns_more x p k c.args.self.now.core c.loop-slot.self.core c.turn.new.self.core host c.loop-slot.slot at' at'' d t));
    }
