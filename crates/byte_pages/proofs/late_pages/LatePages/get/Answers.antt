use Rattle.std.proofs.Common.{ℕ, ◌+◌, ◌/◌, ◌<◌, List, Some, None, slice_index, ap, ◌∙◌, arith}
use Rattle.byte_pages.specs.Pages.{PageState}
use Rattle.byte_pages.proofs.LateTables.{in_table, entry, byte_found, within}
use Rattle.byte_pages.proofs.late_pages.LatePages.get.Goals as goal

pub index-requires : goal.index-requires
index-requires c =
    let bytes = ap (λ (s : PageState). s.bytes) c.self.view_is in
    let last = within c.self.inside.table.items c.self.inside.len c.args.self.now.bytes (c.args.at + 1) bytes (omega (arith, c.requires)) in
    let h : c.args.at < c.self.inside.len = omega (arith, last) in
    let inside = in_table c.self.inside.table.items c.self.inside.len c.args.at c.self.invariant.0 h in
    omega (arith, inside, c.self.inside.table.ok.0)

pub returns-in-Some : goal.returns-in-Some
returns-in-Some c =
    let t = c.self.inside.table.items in
    let bytes = ap (λ (s : PageState). s.bytes) c.self.view_is in
    let last = within t c.self.inside.len c.args.self.now.bytes (c.args.at + 1) bytes (omega (arith, c.requires)) in
    let h : c.args.at < c.self.inside.len = omega (arith, last) in
    let inside = in_table t c.self.inside.len c.args.at c.self.invariant.0 h in
    let is = entry t (c.args.at / 4096) c.index.result.now inside c.index.ensures ∙ c.in-Some.is in
    c.get.ensures ∙ byte_found t c.self.inside.len c.args.at (Some c.in-Some.page) h is ∙ ap (λ (b : List ℕ). slice_index b c.args.at) bytes

pub returns-in-None : goal.returns-in-None
returns-in-None c =
    let t = c.self.inside.table.items in
    let bytes = ap (λ (s : PageState). s.bytes) c.self.view_is in
    let last = within t c.self.inside.len c.args.self.now.bytes (c.args.at + 1) bytes (omega (arith, c.requires)) in
    let h : c.args.at < c.self.inside.len = omega (arith, last) in
    let inside = in_table t c.self.inside.len c.args.at c.self.invariant.0 h in
    let is = entry t (c.args.at / 4096) c.index.result.now inside c.index.ensures ∙ c.in-None.is in
    byte_found t c.self.inside.len c.args.at None h is ∙ ap (λ (b : List ℕ). slice_index b c.args.at) bytes
