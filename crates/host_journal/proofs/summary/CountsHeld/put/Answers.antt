use Rattle.std.proofs.Common.{rules, subst}
use Rattle.host_journal.specs.Standing.{Adds}
use Rattle.host_journal.specs.Tallies.{summary_line}
use Rattle.host_journal.specs.declared.counts.Counts.{Counts}
use Rattle.host_journal.proofs.summary.CountsHeld.put.Goals as goal

pub returns-clause-adds : goal.returns-clause-adds
returns-clause-adds g c = λ recs has.
    subst (λ (n : Counts). Adds c.args.failed.now (g.O.Sink.taken c.args.out.now) c.put_line.new.failed (g.O.Sink.taken c.put_line.new.out) (summary_line c.args.guest c.args.name.now n)) has
    (c.put_line.ensures.adds (summary_line c.args.guest c.args.name.now c.args.self.now) (search rules))
