-- Few nodes on few slots.
use Rattle.std.proofs.Common.{◌≡◌, ◌+◌, ◌<◌, ◌≤◌, ℕ, zero, suc, Bool, true, false, cond, ◌==◌, List, [], ◌∷◌, length, arith}
use Rattle.std.specs.Prelude.{slice_index}
use Rattle.slot_sched.specs.Schedule.{sum_at}

picked : (b : Bool) (v : ℕ) → cond b v 0 ≤ v
picked true v = omega arith
picked false v = omega arith

-- three nodes on a slot need no more than their rates together
pub three_at : (home rate : ℕ → ℕ) (s n : ℕ) → n ≡ 3 → sum_at home s rate n ≤ rate 0 + rate 1 + rate 2
three_at home rate s n e = rw e (omega (arith, picked (home 0 == s) (rate 0), picked (home 1 == s) (rate 1), picked (home 2 == s) (rate 2)))

pub below_two : (P : ℕ → Type 0) → P 0 → P 1 → (g : ℕ) → g < 2 → P g
below_two P a b zero lt = a
below_two P a b (suc zero) lt = b
below_two P a b (suc (suc g)) lt = absurd (omega arith)

pub below_three : (P : ℕ → Type 0) → P 0 → P 1 → P 2 → (g : ℕ) → g < 3 → P g
below_three P a b c zero lt = a
below_three P a b c (suc zero) lt = b
below_three P a b c (suc (suc zero)) lt = c
below_three P a b c (suc (suc (suc g))) lt = absurd (omega arith)

-- past the end of a list stands 0
pub small_two : (xs : List ℕ) (n : ℕ) → length xs ≡ 2 → slice_index xs 0 ≤ n → slice_index xs 1 ≤ n → (s : ℕ) → slice_index xs s ≤ n
small_two [] n e a b s = absurd (omega arith)
small_two (x ∷ []) n e a b s = absurd (omega arith)
small_two (x ∷ y ∷ []) n e a b zero = a
small_two (x ∷ y ∷ []) n e a b (suc zero) = b
small_two (x ∷ y ∷ []) n e a b (suc (suc s)) = omega arith
small_two (x ∷ y ∷ z ∷ xs) n e a b s = absurd (omega arith)
