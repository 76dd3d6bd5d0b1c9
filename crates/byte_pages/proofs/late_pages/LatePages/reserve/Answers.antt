use Rattle.std.proofs.Common.{◌/◌, Bool, List, false, get_or, sym, ap, ◌∙◌, arith}
use Rattle.byte_pages.proofs.Reserving.{reserved_more, reserved_inside, page_inside}
use Rattle.byte_pages.proofs.late_pages.LatePages.reserve.Goals as goal

pub make-requires : goal.make-requires
make-requires c =
    page_inside c.args.self.now c.loop-page.self.there c.args.at c.args.len (c.args.at / 4096) c.loop-page.page c.loop-page.invariant.there c.sizes.ensures.count c.requires
    (omega (arith, c.loop-page-test.true, c.div_ceil-page-end.ensures))

pub returns-in_err-make-clause-inside : goal.returns-in_err-make-clause-inside
returns-in_err-make-clause-inside c i h =
    reserved_inside c.args.self.now c.loop-page.self c.args.at c.args.len c.loop-page.page c.loop-page.invariant.there
    (omega (arith, c.loop-page-test.true, c.div_ceil-page-end.ensures)) (omega (arith, c.if-len-eq0.false)) i
    (ap (λ (b : List Bool). get_or b (i / 4096) false) (sym c.in_err-make.ensures.there) ∙ h)

pub loop-page-preserved : goal.loop-page-preserved
loop-page-preserved c = record {
  bytes = c.in_ok-make.ensures.bytes ∙ c.loop-page.invariant.bytes;
  there = reserved_more c.args.self.now.there c.loop-page.self.there c.make.new.self.there (c.args.at / 4096) c.loop-page.page c.loop-page.invariant.there c.loop-page.auto.page
      (page_inside c.args.self.now c.loop-page.self.there c.args.at c.args.len (c.args.at / 4096) c.loop-page.page c.loop-page.invariant.there c.sizes.ensures.count c.requires
      (omega (arith, c.loop-page-test.true, c.div_ceil-page-end.ensures)))
      c.in_ok-make.ensures.there;
}

pub returns-clause-inside : goal.returns-clause-inside
returns-clause-inside c =
    reserved_inside c.args.self.now c.loop-page.self c.args.at c.args.len c.loop-page.page c.loop-page.invariant.there
    (omega (arith, c.loop-page.auto.page-end, c.div_ceil-page-end.ensures)) (omega (arith, c.if-len-eq0.false))
