-- The guests of a load fit on their slots.
use Rattle.std.proofs.Common.{◌≡◌, ℕ, ◌≤◌, Bool, true, not, refl, arith}
use Rattle.std.proofs.lemmas.Bool.{not-true, ltb-false}
use Rattle.host_plan.specs.Fits.{Fits, is_over}
use Rattle.host_plan.specs.Placing.{assigned, placed, settle, settled}
use Rattle.gen_load.specs.Loads.{ring, ring_guests}
use Rattle.gen_load.proofs.Below.{all_below, at_each}

abbrev has_room : ℕ → Bool
has_room n = all_below (λ s. not (is_over (ring n) (placed (ring n)) s)) 2

rings_have_room : all_below has_room 33 ≡ true
unfolding ring_guests placed assigned settled settle
rings_have_room = refl

pub fits : (n : ℕ) → n ≤ 32 → Fits (ring n) (placed (ring n))
fits n few = λ s low. ltb-false _ _ (not-true _ (at_each (λ s. not (is_over (ring n) (placed (ring n)) s)) 2 s (at_each has_room 33 n rings_have_room (omega (arith, few))) low))
