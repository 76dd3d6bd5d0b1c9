use Rattle.std.proofs.Common.{rules}
use Rattle.dev_list.proofs.Leaving.{leaving_more}
use Rattle.dev_list.proofs.quiet.least_leaving.Goals as goal

pub loop-pipe-preserved : goal.loop-pipe-preserved
loop-pipe-preserved c =
    leaving_more c.args.pipes.now c.loop-pipe.pipe-index c.args.limit c.loop-pipe.least c.least_left-least.result c.pipe-item.result
    (search rules) c.pipe-item.is c.loop-pipe.invariant c.least_left-least.ensures
