use Rattle.bench_build.specs.Setups.{pipe_of}
use Rattle.bench_build.proofs.GuestNics.{numbered_push}
use Rattle.bench_build.proofs.pipes.pipes_for.Goals as goal

pub loop-nic-preserved : goal.loop-nic-preserved
loop-nic-preserved c =
    let l = c.loop-nic in
    numbered_push (pipe_of c.args.links.now c.args.guest) l.pipes.items c.push.new.self.items l.nic c.pipe_at.result c.in_ok-push.ensures.ok l.invariant c.pipe_at.ensures
