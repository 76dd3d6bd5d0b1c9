use Rattle.std.proofs.Common.{◌≡◌, ◌-◌, ◌≤◌, ◌^◌, ◌==◌, false, cond, nat_le, max, min, refl, ap, arith}
use Rattle.core_cases.specs.Dozing.{dozing}
use Rattle.core_cases.proofs.Alarm.{not_now}
use Rattle.core_cases.proofs.Still.{stays}
use Rattle.core_cases.proofs.tests.dozer.DozerNode.skip_to.Goals as goal

pub returns-clause-state : goal.returns-clause-state
returns-clause-state c = λ n is.
    let dozer = c.args.self.now in
    let idle = c.requires.idle in
    let asleep : dozer.awake ≡ false = dozer.asleep (ap (λ k. k.begun) is) in
    let at : dozer.tick ≡ n = ap (λ k. k.tick) is in
    let at' : dozer.tick ≡ idle.0 = ap (λ k. k.tick) idle.1 in
    let most : c.args.to ≤ max n (cond (nat_le n dozer.alarm) (min dozer.alarm (2 ^ 40)) (2 ^ 40)) = rw (← at, at') idle.3 in
    stays dozing (dozer.rate, dozer.alarm, dozer.awake) n c.args.to
    (λ t le lt. let e : (dozer.alarm == t) ≡ false = not_now dozer.alarm n c.args.to t most le lt in rw (e, asleep) refl)
    refl (λ t. rw asleep refl) (c.args.to - n) (omega (arith, at, at', idle.2))
