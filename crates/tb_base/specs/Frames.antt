-- How long a frame is: an Ethernet header of 14 bytes, and at most 1500 bytes behind it.
use Rattle.std.specs.Prelude.{ℕ, ◌≤◌}

abbrev pub IsFrameLength : ℕ → Type 0
IsFrameLength n = (14 ≤ n) × (n ≤ 1514)
