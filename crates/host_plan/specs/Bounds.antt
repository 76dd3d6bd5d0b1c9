-- How large the numbers of a plan are.
use Rattle.std.specs.Prelude.{ℕ, ◌<◌, ◌≤◌, List, All, length, map, slice_index_or}
use Rattle.host_plan.specs.declared.fill.Fill.{Fill}
use Rattle.host_plan.specs.declared.assignment.Assignment.{Assignment}

-- the guests of an experiment with their slots so far
pub record AreAssignments (assignments : List Assignment) : Type 0 where
  pub few : length assignments ≤ 32
  pub rates : All (λ x. x.rate ≤ 100000) assignments

-- the rate of a guest by its number
abbrev pub rate_at : List Assignment → ℕ → ℕ
rate_at assignments i = slice_index_or (map (λ x. x.rate) assignments) i 0

-- what its slots have, and what guests need of them
pub record AreFills (ls : List Fill) : Type 0 where
  pub some : 0 < length ls
  pub few : length ls ≤ 32
  pub needs : All (λ l. l.need ≤ 3200000) ls
  pub haves : All (λ l. l.have ≤ 1000000000) ls
