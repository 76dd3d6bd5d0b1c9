use Rattle.std.proofs.Common.{◌∙◌, ◌++◌, List, ap, take, rules, arith}
use Rattle.std.specs.List.{filter}
use Rattle.std.proofs.lemmas.List.{take_all}
use Rattle.trace_rec.specs.declared.rec.Rec.{Rec}
use Rattle.host_journal.specs.Tallies.{counts_of}
use Rattle.host_journal.specs.Guests.{is_below}
use Rattle.host_journal.proofs.GuestLemmas.{kept_more}
use Rattle.host_journal.proofs.counts.Counts.add_all.Goals as goal

pub loop-rec-preserved : goal.loop-rec-preserved
loop-rec-preserved c = λ kept was.
    c.add_early.ensures (kept ++ filter (is_below c.args.ticks) (take c.loop-rec.rec-index c.args.recs.now)) (c.loop-rec.invariant kept was)
    ∙ ap counts_of (kept_more c.args.ticks kept c.args.recs.now c.loop-rec.rec-index c.rec-item.result (omega arith) (search rules))

pub returns : goal.returns
returns c = λ kept was.
    c.loop-rec.invariant kept was ∙ ap (λ (x : List Rec). counts_of (kept ++ filter (is_below c.args.ticks) x)) (take_all c.loop-rec.rec-index c.args.recs.now (omega arith))
