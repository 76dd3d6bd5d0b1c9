use Rattle.tb_top.proofs.Claims.{told_given, short_of}
use Rattle.tb_top.proofs.law.experiments_are_given.Goals as goal

pub returns : goal.returns
returns c =
    let ranges = c.commands_are_in_range.ensures.ranges in
    record { runs = λ words held e may. told_given ranges words held may.origin _ e may.asks.command may.asks.told; short = λ w k wanted had. short_of ranges k wanted had }
