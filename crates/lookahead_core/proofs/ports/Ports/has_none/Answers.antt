use Rattle.std.proofs.Common.{◌<◌, ◌∙◌, [], length, sym, ap, arith}
use Rattle.std.proofs.lemmas.List.{get_or-map, length-map}
use Rattle.lookahead_core.specs.Lists.{list_at}
use Rattle.lookahead_core.proofs.ListLemmas.{none_long}
use Rattle.lookahead_core.proofs.ports.Ports.has_none.Goals as goal

pub returns : goal.returns
returns c = λ none.
    let xs = c.self.inside.lists.items in
    let lt : c.args.nic < length xs = omega (arith, c.requires, ap length c.self.view_is, length-map xs (λ l. l.items)) in
    ap (λ s. list_at s c.args.nic) (sym c.self.view_is) ∙ get_or-map (λ l. l.items) xs c.args.nic c.index.result.now [] lt ∙ ap (λ l. l.items) (sym c.index.ensures) ∙ none_long c.index.result.now.items (sym c.is_empty.ensures ∙ none)
