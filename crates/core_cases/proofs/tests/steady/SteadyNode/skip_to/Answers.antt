use Rattle.std.proofs.Common.{◌≡◌, ◌-◌, refl, ap, arith}
use Rattle.core_cases.specs.Steadiness.{steady}
use Rattle.core_cases.proofs.Still.{stays}
use Rattle.core_cases.proofs.tests.steady.SteadyNode.skip_to.Goals as goal

pub returns-clause-state : goal.returns-clause-state
returns-clause-state c = λ n is.
    let idle = c.requires.idle in
    let at : c.args.self.now.tick ≡ n = ap (λ k. k.tick) is in
    let at' : c.args.self.now.tick ≡ idle.0 = ap (λ k. k.tick) idle.1 in
    stays steady (c.args.self.now.rate, c.args.self.now.busy) n c.args.to (λ t le lt. refl) refl (λ t. refl) (c.args.to - n) (omega (arith, at, at', idle.2))
