use Rattle.std.proofs.Common.{◌≡◌, ℕ, ◌+◌, ◌/◌, List, length, replicate, slice_range, ap, ◌∙◌, arith}
use Rattle.byte_pages.specs.Pages.{PageState}
use Rattle.byte_pages.proofs.LateTables.{in_table, entry, within, page_slice, zeros_slice}
use Rattle.byte_pages.proofs.late_pages.LatePages.read_piece.Goals as goal

pub index-requires : goal.index-requires
index-requires c =
    let bytes = ap (λ (s : PageState). s.bytes) c.self.view_is in
    let h = within c.self.inside.table.items c.self.inside.len c.args.self.now.bytes (c.args.at + length c.args.to.now) bytes c.requires.inside in
    let inside = in_table c.self.inside.table.items c.self.inside.len c.args.at c.self.invariant.0 (omega (arith, h, c.requires.some)) in
    omega (arith, inside, c.self.inside.table.ok.0)

pub returns-in-Some : goal.returns-in-Some
returns-in-Some c =
    let t = c.self.inside.table.items in
    let bytes = ap (λ (s : PageState). s.bytes) c.self.view_is in
    let h = within t c.self.inside.len c.args.self.now.bytes (c.args.at + length c.args.to.now) bytes c.requires.inside in
    let inside = in_table t c.self.inside.len c.args.at c.self.invariant.0 (omega (arith, h, c.requires.some)) in
    let is = entry t (c.args.at / 4096) c.index.result.now inside c.index.ensures ∙ c.in-Some.is in
    c.read_into.ensures.bytes ∙ page_slice t c.self.inside.len c.args.at (length c.args.to.now) c.in-Some.page is c.read_into.ensures.length h c.requires.page
    ∙ ap (λ (b : List ℕ). slice_range b c.args.at (c.args.at + length c.args.to.now)) bytes

pub returns-in-None : goal.returns-in-None
returns-in-None c =
    let t = c.self.inside.table.items in
    let bytes = ap (λ (s : PageState). s.bytes) c.self.view_is in
    let h = within t c.self.inside.len c.args.self.now.bytes (c.args.at + length c.args.to.now) bytes c.requires.inside in
    let inside = in_table t c.self.inside.len c.args.at c.self.invariant.0 (omega (arith, h, c.requires.some)) in
    let is = entry t (c.args.at / 4096) c.index.result.now inside c.index.ensures ∙ c.in-None.is in
    let filled : c.fill.new.self ≡ replicate (length c.args.to.now) 0 = c.fill.ensures.after (λ y e. e) in
    zeros_slice t c.self.inside.len c.args.at (length c.args.to.now) c.fill.new.self is filled h c.requires.page
    ∙ ap (λ (b : List ℕ). slice_range b c.args.at (c.args.at + length c.args.to.now)) bytes
