use Rattle.std.proofs.Common.{length}
use Rattle.device_cases.proofs.disk.tell.Goals as goal

pub returns : goal.returns
returns c = c.store.ensures.coming c.args.now (length c.args.ram.now) c.requires
