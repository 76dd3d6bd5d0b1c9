use Rattle.std.proofs.Common.{◌≡◌, ◌∙◌, [], ℕ, length, map, replicate, ap, arith}
use Rattle.std.proofs.lemmas.List.{map-set, length-map}
use Rattle.lookahead_core.proofs.ListLemmas.{cleared, in_place_step}
use Rattle.lookahead_core.proofs.ports.clear_all.Goals as goal

pub loop-i-preserved : goal.loop-i-preserved
loop-i-preserved c =
    let i : ℕ = c.loop-i.i in
    let n = length-map c.args.lists.now (λ l. l.items) in
    map-set (λ l. l.items) c.loop-i.lists i c.clear.new.self
    ∙ in_place_step (λ _. []) (map (λ l. l.items) c.args.lists.now) (map (λ l. l.items) c.loop-i.lists) i [] c.clear.new.self.items (omega (arith, n)) c.loop-i.invariant c.clear.ensures

pub returns : goal.returns
returns c =
    let n = length-map c.args.lists.now (λ l. l.items) in
    let at : c.loop-i.i ≡ length (map (λ l. l.items) c.args.lists.now) = omega (arith, n) in
    c.loop-i.invariant ∙ cleared (map (λ l. l.items) c.args.lists.now) c.loop-i.i at ∙ ap (λ k. replicate k []) (at ∙ n)
