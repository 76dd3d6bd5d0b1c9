use Rattle.std.proofs.Common.{length, ap, ◌∙◌}
use Rattle.byte_pages.specs.Pages.{PageState}
use Rattle.blk_dev.proofs.Opening.{opened_there}
use Rattle.blk_dev.proofs.registers.opening_content.Goals as goal

pub returns-clause-there : goal.returns-clause-there
returns-clause-there c =
    let made = c.in-Ok-reserve.ensures in
    c.write_from.ensures.there
    ∙ opened_there c.args.len (length c.args.given.now) c.in-Ok.content c.reserve.new.self c.requires (ap (λ (p : PageState). p.there) c.in-Ok.ensures) made.there made.inside made.count
