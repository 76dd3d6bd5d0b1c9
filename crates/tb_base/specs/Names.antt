-- How long a name is.
use Rattle.std.specs.Prelude.{ℕ, ◌≤◌}

abbrev pub IsNameLength : ℕ → Type 0
IsNameLength n = (1 ≤ n) × (n ≤ 255)
