use Rattle.std.proofs.Common.{◌<◌, arith}
use Rattle.split_queue.proofs.OneTable.{room_left, writable_added}
use Rattle.split_queue.proofs.chain.Chain.add_writable.Goals as goal

pub returns : goal.returns
returns c =
    let q = c.self.inside in
    let l : q.count < 64 = room_left q.head q.reads q.count q.ranges c.args.self.now c.self.view_is c.self.invariant.0 c.self.invariant.1 c.self.invariant.2 c.requires.room in
    writable_added q.head q.reads q.count q.ranges c.args.range c.args.self.now c.self.view_is c.self.invariant.0 (omega (arith, c.self.invariant.2))
