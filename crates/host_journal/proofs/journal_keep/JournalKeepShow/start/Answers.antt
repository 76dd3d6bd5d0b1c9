use Rattle.std.proofs.Common.{rules}
use Rattle.host_journal.proofs.StandingLemmas.{stands_start}
use Rattle.host_journal.specs.Texts.{head_line}
use Rattle.host_journal.proofs.journal_keep.JournalKeepShow.start.Goals as goal

pub returns-clause-stands : goal.returns-clause-stands
returns-clause-stands g c = λ fresh.
    stands_start c.args.self.now.failed c.put_line.new.failed (g.O.Sink.taken c.args.out.now) (g.O.Sink.taken c.put_line.new.out) c.args.self.now.view c.args.self.now.head
    fresh (c.put_line.ensures.adds (head_line c.args.self.now.head) (search rules))
