use Rattle.std.proofs.Common.{◌≡◌, ℕ, zero, suc, ◌≤◌, ◌^◌, ◌==◌, Bool, true, false, cond, nat_le, max, min, replicate, [], ◌∷◌, refl, ap, arith}
use Rattle.lookahead_core.specs.Lists.{list_at}
use Rattle.lookahead_core.specs.Motion.{Bytes}
use Rattle.core_cases.proofs.Alarm.{not_now}
use Rattle.core_cases.proofs.Still.{quiet_still}
use Rattle.core_cases.proofs.tests.dozer.DozerNode.quiet_to.Goals as goal

nothing : (b : Bool) (f : Bytes) (nic : ℕ) → b ≡ false → list_at {A = Bytes} (cond b (f ∷ []) [] ∷ []) nic ≡ []
nothing true f nic e = cc
nothing false f zero e = refl
nothing false f (suc nic) e = refl

pub returns-clause-quiet : goal.returns-clause-quiet
returns-clause-quiet c = λ n is.
    let dozer = c.args.self.now in
    let asleep : dozer.awake ≡ false = dozer.asleep (ap (λ k. k.begun) is) in
    let at : dozer.tick ≡ n = ap (λ k. k.tick) is in
    let most : c.max.result ≤ max dozer.tick (cond (nat_le dozer.tick dozer.alarm) (min dozer.alarm (2 ^ 40)) (2 ^ 40)) = omega (arith, c.max.ensures, c.wakes_at.ensures) in
    quiet_still _ _ n c.max.result
    (λ t le lt. let e : (dozer.alarm == t) ≡ false = not_now dozer.alarm dozer.tick c.max.result t most (omega (arith, at, le)) lt in rw (e, asleep) refl)
    refl (λ t. rw asleep refl) asleep (λ t. rw asleep refl) (λ t nic. nothing dozer.awake (replicate 14 0) nic asleep)
