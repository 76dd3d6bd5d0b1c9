use Rattle.std.proofs.Common.{length}
use Rattle.dev_face.specs.States.{IsComing}
use Rattle.blk_dev.specs.BlkView.{blk_state}
use Rattle.device_cases.proofs.disk.bring_up.Given as goal

abbrev pub invariant-words : goal.invariant-words
invariant-words l = IsComing l.now (length l.ram) (blk_state l.disk)
