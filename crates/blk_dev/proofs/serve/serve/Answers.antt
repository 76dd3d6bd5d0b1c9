use Rattle.std.proofs.Common.{refl, ◌∙◌}
use Rattle.dev_face.specs.BlkCalls.{work_with}
use Rattle.blk_dev.proofs.Making.{made_on, made_all}
use Rattle.blk_dev.proofs.Serving.{along_start, along_more, along_end}
use Rattle.blk_dev.proofs.serve.serve.Goals as goal

pub due-init : goal.due-init
due-init c = record {
  along = along_start _ _ _ _ (work_with c.args.regs.now c.args.queue.now c.args.content.now.bytes c.args.ram.now) _ _ c.requires.ranges c.requires.rings refl c.requires.disk;
  pages = λ x h. h;
}

pub due-preserved : goal.due-preserved
due-preserved c = record {
  along =
      along_more _ _ _ _ _ (work_with c.due.regs c.due.queue c.due.content.bytes c.due.ram) _ _ c.due.flying.items _ c.in-Some.flight _ c.due.log.items _ c.done_rec.result c.due.invariant.along c.in-Some.ensures.first c.in-Some.ensures.due
      c.in_ok-complete.ensures.work c.in_ok-complete.ensures.size c.in_ok-complete.ensures.sectors c.in_ok-complete.ensures.rings c.done_rec.ensures c.in_ok-push.ensures.ok;
  pages = made_on _ _ _ _ c.due.flying.items _ c.in-Some.flight c.due.content _ c.due.invariant.pages c.in-Some.ensures.first c.in-Some.ensures.due c.in_ok-complete.ensures.pages;
}

pub returns-clause-work : goal.returns-clause-work
returns-clause-work c = (along_end _ _ _ _ _ _ _ c.due.flying.items _ _ c.due.invariant.along c.in_default.ensures.none).work

pub returns-clause-left : goal.returns-clause-left
returns-clause-left c = c.in_default.ensures.kept ∙ (along_end _ _ _ _ _ _ _ c.due.flying.items _ _ c.due.invariant.along c.in_default.ensures.none).left

pub returns-clause-recs : goal.returns-clause-recs
returns-clause-recs c = (along_end _ _ _ _ _ _ _ c.due.flying.items _ _ c.due.invariant.along c.in_default.ensures.none).recs

pub returns-clause-pages : goal.returns-clause-pages
returns-clause-pages c = made_all _ _ _ _ c.due.flying.items c.due.content c.due.invariant.pages c.in_default.ensures.none
