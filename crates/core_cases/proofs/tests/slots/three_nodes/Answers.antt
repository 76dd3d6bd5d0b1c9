use Rattle.std.proofs.Common.{◌≡◌, [], ◌∷◌, ap, ◌∙◌, rules}
use Rattle.std.specs.Prelude.{slice_get}
use Rattle.core_cases.proofs.tests.slots.three_nodes.Goals as goal

pub returns-clause-rates : goal.returns-clause-rates
returns-clause-rates c =
    let all : c.push-3.new.self.items ≡ c.new-3.result ∷ c.new-4.result ∷ c.new-5.result ∷ [] = search rules in
    let rates = c.in_ok-build.ensures.rates in (
      rates 0 c.new-3.result (ap (λ ns. slice_get ns 0) all) ∙ c.new-3.ensures.3,
      rates 1 c.new-4.result (ap (λ ns. slice_get ns 1) all) ∙ c.new-4.ensures.3,
      rates 2 c.new-5.result (ap (λ ns. slice_get ns 2) all) ∙ c.new-5.ensures.3,
    )
