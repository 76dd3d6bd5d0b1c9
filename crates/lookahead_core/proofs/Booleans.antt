-- Small facts on Booleans.
use Rattle.std.proofs.Common.{◌≡◌, Bool, true, false}

pub true_false : {A : Type 0} {b : Bool} → b ≡ true → b ≡ false → A
true_false t f = cc
