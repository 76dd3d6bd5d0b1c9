use Rattle.blk_dev.proofs.Making.{none_written}
use Rattle.blk_dev.proofs.Opening.{count_opening}
use Rattle.blk_dev.proofs.law.pages_are_made_by_writes.Goals as goal

pub returns-clause-opening : goal.returns-clause-opening
returns-clause-opening c len given fits = count_opening len given

pub returns-clause-reads : goal.returns-clause-reads
returns-clause-reads c = none_written
