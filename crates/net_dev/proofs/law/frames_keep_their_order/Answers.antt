use Rattle.net_dev.proofs.Arriving.{in_order}
use Rattle.net_dev.proofs.law.frames_keep_their_order.Goals as goal

pub returns : goal.returns
returns c = in_order
