use Rattle.std.proofs.Common.{◌≡◌, [], ◌∷◌, ap, ◌∙◌, rules}
use Rattle.std.specs.Prelude.{slice_get}
use Rattle.lookahead_core.specs.CoreWords.{node_rate}
use Rattle.core_cases.proofs.Shares.{below_two}
use Rattle.core_cases.proofs.tests.slots.two_wired.Goals as goal

pub returns-clause-rates : goal.returns-clause-rates
returns-clause-rates c =
    let both : c.push-2.new.self.items ≡ c.new.result ∷ c.new-2.result ∷ [] = search rules in
    let rates = c.in_ok-build.ensures.rates in
    below_two (λ g. node_rate c.in_ok-build.field-0 g ≡ 1)
    (rates 0 c.new.result (ap (λ ns. slice_get ns 0) both) ∙ c.new.ensures.3)
    (rates 1 c.new-2.result (ap (λ ns. slice_get ns 1) both) ∙ c.new-2.ensures.3)
