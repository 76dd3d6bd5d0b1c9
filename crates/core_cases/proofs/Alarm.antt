-- A node with an alarm, between its next tick and the tick in which it wakes.
use Rattle.std.proofs.Common.{◌≡◌, ℕ, ◌<◌, ◌≤◌, ◌^◌, true, false, cond, ◌==◌, nat_le, max, min, arith}
use Rattle.std.proofs.lemmas.Bool.Decides.{nat_tests}

differ : (a b : ℕ) → (a ≡ b → ⊥) → (a == b) ≡ false
differ a b ne = grind (arith, nat_tests)

pub not_now : (alarm n q t : ℕ) → q ≤ max n (cond (nat_le n alarm) (min alarm (2 ^ 40)) (2 ^ 40)) → n ≤ t → t < q → (alarm == t) ≡ false
not_now alarm n q t most le lt = differ alarm t (λ e.
    let yet : nat_le n alarm ≡ true = grind (arith, nat_tests) in
    let most' : q ≤ max n (min alarm (2 ^ 40)) = rw yet at most in
    omega (arith, most', e))
