use Rattle.std.proofs.Common.{length}
use Rattle.net_cases.proofs.nic.pass.Goals as goal

pub begin_tick-requires-clause-coming : goal.begin_tick-requires-clause-coming
begin_tick-requires-clause-coming c = c.requires.next.coming (length c.args.ram.now)
