use Rattle.std.proofs.Common.{◌∙◌}
use Rattle.net_cases.proofs.nic.bring_up.Goals as goal

pub loop-off-preserved : goal.loop-off-preserved
loop-off-preserved c =
    let i = c.loop-off.invariant in
    let e = c.store.ensures in
    record { set_up = e.still; kind = e.kind ∙ i.kind; coming = λ tick n h. e.coming tick n (i.coming tick n h) }
