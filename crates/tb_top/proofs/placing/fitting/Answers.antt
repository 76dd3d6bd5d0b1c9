-- A run that does not fit is not run.
use Rattle.tb_top.proofs.Common.{◌∙◌, ℕ, List, subst, IsFirstOverload, Ends, no_memory, ended, over_status, Run}
use Rattle.tb_top.proofs.placing.fitting.Goals as goal

pub returns-in-Err-clause-refused : goal.returns-in-Err-clause-refused
returns-in-Err-clause-refused c = λ w o n view asked quiet. no_memory quiet

pub returns-in-Ok-check-clause-placed : goal.returns-in-Ok-check-clause-placed
returns-in-Ok-check-clause-placed c = c.in-Ok.ensures.placed ∙ c.placements_see_no_room.ensures.placed c.args.e.now

pub returns-in-Err-check-clause-refused : goal.returns-in-Err-check-clause-refused
returns-in-Err-check-clause-refused c = λ w o n view asked quiet.
    let e = c.args.e.now in
    let over = subst (λ (q : List ℕ). IsFirstOverload e q c.in-Err-check.over) (c.in-Ok.ensures.placed ∙ c.placements_see_no_room.ensures.placed e) c.in-Err-check.ensures.over in
    let end : Ends w (over_status c.in-Err-check.over) = ended o (Run n view) _ asked (c.placements_see_no_room.ensures.over e _ _ over, quiet) in
    rw c.over_status.ensures end
