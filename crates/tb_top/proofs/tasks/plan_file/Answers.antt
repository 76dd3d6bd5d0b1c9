-- The plan is that of the experiment that was read.
use Rattle.tb_top.proofs.Common.{◌∙◌, ℕ, List, refl, subst, no_memory, File, Plan, Plans, sink_seen}
use Rattle.tb_top.proofs.Endings.{unasked, plan_ends}
use Rattle.tb_top.proofs.tasks.plan_file.Goals as goal

pub returns-in-Err-clause-ends : goal.returns-in-Err-clause-ends
returns-in-Err-clause-ends g c = λ words had are. unasked c.in-Err.status refl (c.in-Err.ensures.refused words Plan are)

pub returns-clause-ends : goal.returns-clause-ends
returns-clause-ends g c = λ words had are. no_memory refl

pub returns-in-Ok-place-clause-ends : goal.returns-in-Ok-place-clause-ends
returns-in-Ok-place-clause-ends g c = λ words had are.
    let e = c.in-Ok.experiment in
    let placing = c.placements_see_no_room.ensures in
    let putting = c.plans_see_no_room.ensures in
    plan_ends placing.over putting.whole putting.part (File c.args.name.now) e (record { command = are; from = c.in-Ok.ensures.from }) c.put_placed.result
    (subst (λ (q : List ℕ). Plans e q (sink_seen g.O.Sink c.args.out.now) (sink_seen g.O.Sink c.put_placed.new.out) c.put_placed.result) (c.in-Ok-place.ensures.placed ∙ placing.placed e) c.put_placed.ensures.plans)
