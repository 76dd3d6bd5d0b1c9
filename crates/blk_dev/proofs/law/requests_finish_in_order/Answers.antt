use Rattle.blk_dev.proofs.Ordered.{opening_ordered, store_ordered, begin_ordered, end_ordered, next_least}
use Rattle.blk_dev.proofs.law.requests_finish_in_order.Goals as goal

pub returns-clause-opening : goal.returns-clause-opening
returns-clause-opening c = opening_ordered

pub returns-clause-store : goal.returns-clause-store
returns-clause-store c = store_ordered

pub returns-clause-begin : goal.returns-clause-begin
returns-clause-begin c = begin_ordered

pub returns-clause-end : goal.returns-clause-end
returns-clause-end c = end_ordered c.finish_ticks_never_fall.ensures.later c.finish_ticks_never_fall.ensures.range

pub returns-clause-skip : goal.returns-clause-skip
returns-clause-skip c s tick h = h

pub returns-clause-next : goal.returns-clause-next
returns-clause-next c = next_least
