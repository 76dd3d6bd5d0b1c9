-- How far a walk with a table of marks has come.
use Rattle.std.specs.Prelude.{◌≡◌, ℕ, ◌+◌, ◌<◌, ◌≤◌, Bool, false, List, length, slice_index_or}
use Rattle.std.specs.List.{count_by}
use Rattle.split_queue.specs.Chains.{ChainOf, chain_of}
use Rattle.split_queue.specs.Paths.{Start, place, path, is_among, has_writable, ends_at, readable_of, writable_of}

-- the walk stands at descriptor n of the path
pub record Along (s : Start) (n p : ℕ) (met : List Bool) (after : Bool) (c : ChainOf) : Type 0 where
  pub at : p ≡ place s n
  pub inside : p < s.size
  pub small : s.size ≤ 64
  pub earlier : (k : ℕ) → k < n → ends_at s k ≡ false
  pub marks : (j : ℕ) → j < 64 → slice_index_or met j false ≡ is_among s n j
  pub table : length met ≡ 64
  pub count : count_by (λ (b : Bool). b) met ≡ n
  pub wrote : after ≡ has_writable (path s n)
  pub chain : c ≡ chain_of s.head (readable_of (path s n)) (writable_of (path s n))
  pub lengths : length c.readable + length c.writable ≡ n
