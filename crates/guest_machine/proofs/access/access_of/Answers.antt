use Rattle.std.proofs.Common.{rules, sym}
use Rattle.guest_machine.specs.Regions.{regions}
use Rattle.guest_machine.proofs.Outside.{nowhere}
use Rattle.guest_machine.proofs.access.access_of.Goals as goal

pub returns-else-contains-5-clause-access : goal.returns-else-contains-5-clause-access
returns-else-contains-5-clause-access c =
    sym (nowhere regions c.args.count c.args.addr (search rules, (search rules, (search rules, (search rules, (search rules, tt))))))
