use Rattle.std.proofs.Common.{sym, ◌∙◌}
use Rattle.dev_face.specs.BlkCalls.{intake_with}
use Rattle.blk_dev.proofs.Taking.{along_more, along_stop, along_full}
use Rattle.blk_dev.proofs.admit.take_all.Goals as goal

pub chains-preserved : goal.chains-preserved
chains-preserved c =
    let e = c.in_ok-goes_on.ensures in
    along_more _ _ _ _ _ (intake_with c.chains.regs c.chains.queue c.chains.server c.chains.flying.items) _ _ _ c.chains.log.items _ c.chains.invariant c.chains-test.true (sym e.goes_on ∙ c.if-not-goes_on.false) e.intake (e.quiet c.if-not-goes_on.false) e.ranges
    (c.in_ok-goes_on.ensures.rings c.chains.invariant.rings)

pub returns-then-not-goes_on-clause-intake : goal.returns-then-not-goes_on-clause-intake
returns-then-not-goes_on-clause-intake c =
    let e = c.in_ok-goes_on.ensures in
    (along_stop _ _ _ _ _ (intake_with c.chains.regs c.chains.queue c.chains.server c.chains.flying.items) _ _ _ c.chains.log.items _ c.chains.invariant c.chains-test.true (sym e.goes_on ∙ c.if-not-goes_on.true) e.intake e.recs).intake

pub returns-then-not-goes_on-clause-recs : goal.returns-then-not-goes_on-clause-recs
returns-then-not-goes_on-clause-recs c =
    let e = c.in_ok-goes_on.ensures in
    (along_stop _ _ _ _ _ (intake_with c.chains.regs c.chains.queue c.chains.server c.chains.flying.items) _ _ _ c.chains.log.items _ c.chains.invariant c.chains-test.true (sym e.goes_on ∙ c.if-not-goes_on.true) e.intake e.recs).recs

pub returns-clause-intake : goal.returns-clause-intake
returns-clause-intake c = (along_full _ _ _ _ _ _ _ _ _ c.chains.invariant c.chains-test.false).intake

pub returns-clause-recs : goal.returns-clause-recs
returns-clause-recs c = (along_full _ _ _ _ _ _ _ _ _ c.chains.invariant c.chains-test.false).recs
