use Rattle.std.proofs.Common.{sym, ap, ◌∙◌}
use Rattle.dev_list.proofs.Sent.{full_stays, told_full, told_taken}
use Rattle.trace_rec.specs.declared.what.What.TheVariants.{Sent}
use Rattle.dev_list.proofs.sending.offer_to.Goals as goal

pub returns-then-is_full-clause-pipe : goal.returns-then-is_full-clause-pipe
returns-then-is_full-clause-pipe c = full_stays c.args.pipe.now c.args.now c.args.frame (sym c.is_full.ensures ∙ c.if-is_full.true)

pub returns-then-is_full-clause-told : goal.returns-then-is_full-clause-told
returns-then-is_full-clause-told c = c.dropped.ensures ∙ told_full c.args.nic c.args.pipe.now c.args.frame (sym c.is_full.ensures ∙ c.if-is_full.true)

pub returns-clause-told : goal.returns-clause-told
returns-clause-told c = ap (Sent c.args.nic) c.in_ok-sent.ensures ∙ told_taken c.args.nic c.args.pipe.now c.args.frame (sym c.is_full.ensures ∙ c.if-is_full.false)
