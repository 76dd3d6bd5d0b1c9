use Rattle.link_pipe.proofs.Fates.{later_stands}
use Rattle.link_pipe.proofs.law.pipe_waits.Goals as goal

pub returns : goal.returns
returns c = later_stands
