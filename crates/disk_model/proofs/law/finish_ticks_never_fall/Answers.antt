use Rattle.disk_model.proofs.Order.{finish_order, admitted_later, admitted_range}
use Rattle.disk_model.proofs.law.finish_ticks_never_fall.Goals as goal

pub returns-clause-order : goal.returns-clause-order
returns-clause-order c = finish_order

pub returns-clause-later : goal.returns-clause-later
returns-clause-later c = admitted_later

pub returns-clause-range : goal.returns-clause-range
returns-clause-range c = admitted_range
