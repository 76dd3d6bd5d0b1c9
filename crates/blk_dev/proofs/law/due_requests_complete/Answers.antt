use Rattle.blk_dev.specs.Order.{in_flight}
use Rattle.blk_dev.proofs.Due.{due_complete}
use Rattle.blk_dev.proofs.law.due_requests_complete.Goals as goal

pub returns-clause-work : goal.returns-clause-work
returns-clause-work c now disk sectors w s h = (due_complete now disk sectors w (in_flight s.active) h.order).work

pub returns-clause-recs : goal.returns-clause-recs
returns-clause-recs c now disk sectors w s h = (due_complete now disk sectors w (in_flight s.active) h.order).recs

pub returns-clause-left : goal.returns-clause-left
returns-clause-left c now disk sectors w s h = (due_complete now disk sectors w (in_flight s.active) h.order).left
