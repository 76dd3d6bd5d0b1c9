use Rattle.dev_face.specs.BlkCalls.{intake_with}
use Rattle.blk_dev.proofs.Taking.{Along}
use Rattle.blk_dev.proofs.admit.take_all.Given as goal

abbrev pub invariant-chains : goal.invariant-chains
invariant-chains l = Along l.now l.slot l.sectors l.ram (intake_with l.fn.regs l.fn.queue l.fn.server l.fn.flying.items) (intake_with l.regs l.queue l.server l.flying.items) l._k l.fn.log.items l.log.items
