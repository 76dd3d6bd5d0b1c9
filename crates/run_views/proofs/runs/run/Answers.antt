-- Each view is put by its keeper, under the head of the run.
use Rattle.run_views.proofs.Common.{refl, Traces, Summary}
use Rattle.run_views.proofs.runs.run.Goals as goal

pub returns-in-Journal-clause-runs : goal.returns-in-Journal-clause-runs
returns-in-Journal-clause-runs g c = λ slots i stands tick plans. c.put_lines.ensures.runs c.args.e.now slots i c.in-Ok.ensures stands tick plans

pub returns-in-Ok-new-clause-runs : goal.returns-in-Ok-new-clause-runs
returns-in-Ok-new-clause-runs g c = λ slots i stands tick plans.
    rw c.in-Traces.is (c.put_guests.ensures.runs Traces c.args.e.now slots i (rw c.in-Ok-new.ensures.head c.in-Ok.ensures) (λ h r es. refl) stands tick plans)

pub returns-in-Ok-new-2-clause-runs : goal.returns-in-Ok-new-2-clause-runs
returns-in-Ok-new-2-clause-runs g c = λ slots i stands tick plans.
    rw c.in-Summary.is (c.put_guests-in-Ok-new-2.ensures.runs Summary c.args.e.now slots i (rw c.in-Ok-new-2.ensures.head c.in-Ok.ensures) (λ h r es. refl) stands tick plans)
