use Rattle.std.proofs.Common.{◌≡◌, refl, ap, arith}
use Rattle.core_cases.proofs.Still.{quiet_still}
use Rattle.core_cases.proofs.tests.steady.SteadyNode.quiet_to.Goals as goal

pub returns-then-self-clause-quiet : goal.returns-then-self-clause-quiet
returns-then-self-clause-quiet c = λ n is k lt. let at : c.args.self.now.tick ≡ n = ap (λ t. t.tick) is in absurd (omega (arith, at, lt))

pub returns-else-self-clause-quiet : goal.returns-else-self-clause-quiet
returns-else-self-clause-quiet c = λ n is. quiet_still _ (c.args.self.now.rate, c.args.self.now.busy) n c.max.result (λ t le lt. refl) refl (λ t. refl) c.if-self.false (λ t. refl) (λ t nic. refl)
