-- The keys that a table has and a section of a file does not.
use Rattle.std.specs.Prelude.{◌≡◌, ◌||◌, ℕ, List, Bool, true, false}
use Rattle.std.specs.Cmp.Lexicographic.{slice_cmp}
use Rattle.std.specs.Ordering.{nat_cmp, is_le}
use Rattle.std.specs.Str.{bytes_eq}
use Rattle.toml.specs.Data.{Members, no_members, member}
use Rattle.exp_file.specs.Keys.{is_among}

-- whether a table has a key
abbrev pub has_key : List ℕ → Members → Bool
has_key k no_members = false
has_key k (member l d ms) = bytes_eq l k || has_key k ms

-- a key that a table has and that is none of these
abbrev pub IsUnknown : List (List ℕ) → Members → List ℕ → Type 0
IsUnknown keys ms k = (has_key k ms ≡ true) × (is_among keys k ≡ false)

-- the first of them in the order of bytes
pub record IsLeastUnknown (keys : List (List ℕ)) (ms : Members) (k : List ℕ) : Type 0 where
  pub unknown : IsUnknown keys ms k
  pub least : (j : List ℕ) → IsUnknown keys ms j → is_le (slice_cmp nat_cmp k j) ≡ true

-- no key of a table but these
abbrev pub AreKnown : List (List ℕ) → Members → Type 0
AreKnown keys ms = (k : List ℕ) → has_key k ms ≡ true → is_among keys k ≡ true
