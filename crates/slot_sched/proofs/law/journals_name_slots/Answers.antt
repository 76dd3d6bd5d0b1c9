use Rattle.slot_sched.proofs.Naming.{legal_named, legal_same}
use Rattle.slot_sched.proofs.law.journals_name_slots.Goals as goal

pub returns-clause-named : goal.returns-clause-named
returns-clause-named c = legal_named

pub returns-clause-same : goal.returns-clause-same
returns-clause-same c = legal_same
