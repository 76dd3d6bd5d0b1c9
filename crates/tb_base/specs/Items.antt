-- What contracts see of a list with room to spare.
use Rattle.std.specs.Prelude.{ℕ, List, refl}
use Rattle.std.specs.Coded.{Coded, code_by, coded×, coded_list, coded_ℕ}

-- the items of a list, and how many more it has room for
pub record Items (T : Type 0) : Type 0 where
  pub items : List T
  pub spare : ℕ

-- items are stored as the pair of their fields
abbrev pub items_code : {T : Type 0} → Coded T → Coded (Items T)
items_code {T} c = code_by (List T × ℕ) (coded× (coded_list c) coded_ℕ) (λ b. (b.items, b.spare)) (λ p. record { items = p.0; spare = p.1 }) (λ _. refl)
