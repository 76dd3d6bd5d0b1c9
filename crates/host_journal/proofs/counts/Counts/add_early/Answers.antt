use Rattle.host_journal.proofs.CountLemmas.{early}
use Rattle.host_journal.proofs.counts.Counts.add_early.Goals as goal

pub returns-then-rec-ticks : goal.returns-then-rec-ticks
returns-then-rec-ticks c = λ kept was. early c.args.ticks kept c.args.rec.now c.args.self.now c.add.new.self c.if-rec-ticks.true c.add.ensures was
