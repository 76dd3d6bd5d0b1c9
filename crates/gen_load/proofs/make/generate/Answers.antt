use Rattle.std.proofs.Common.{arith}
use Rattle.gen_load.proofs.Rings.{right_in_room}
use Rattle.gen_load.proofs.make.generate.Goals as goal

pub returns-in-Ok-clause-well_formed : goal.returns-in-Ok-clause-well_formed
returns-in-Ok-clause-well_formed c =
    right_in_room c.args.n c.in-Ok.load.experiment (omega (arith, c.if-n-lt2.false)) (omega (arith, c.if-n-gt-GUESTS.false)) c.in-Ok.ensures.experiment
