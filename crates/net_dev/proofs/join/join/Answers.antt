use Rattle.net_dev.proofs.Joining.{along_start, along_more}
use Rattle.net_dev.proofs.join.join.Goals as goal

pub loop-frame-init : goal.loop-frame-init
loop-frame-init c = along_start c.args.now c.args.nic c.args.backlog.now.items c.args.log.now.items

pub loop-frame-preserved : goal.loop-frame-preserved
loop-frame-preserved c =
    let e = c.in_ok-join_one.ensures in
    along_more _ _ _ c.loop-frame.backlog.items _ c.loop-frame.yielded c.in-Some.frame _ c.loop-frame.log.items _ c.loop-frame.invariant e.backlog e.recs e.front
