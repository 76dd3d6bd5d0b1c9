-- Tests of all numbers below a bound.
use Rattle.std.proofs.Common.{◌≡◌, ℕ, zero, suc, ◌<◌, ◌&&◌, Bool, true, subst, sym, arith, inl, inr}
use Rattle.std.proofs.lemmas.Bool.{and_parts, cases_eq}

abbrev pub all_below : (ℕ → Bool) → ℕ → Bool
all_below p zero = true
all_below p (suc n) = p n && all_below p n

pub at_each : (p : ℕ → Bool) (n i : ℕ) → all_below p n ≡ true → i < n → p i ≡ true
at_each p zero i h low = absurd (omega (arith, low))
at_each p (suc n) i h low =
    let parts = and_parts (p n) (all_below p n) h in
    elim (cases_eq i n) [
      | inl same ↦ subst (λ (k : ℕ). p k ≡ true) (sym same) parts.0
      | inr other ↦ at_each p n i parts.1 (omega (arith, low, other))
    ]
