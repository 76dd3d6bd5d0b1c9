-- The numbers of a command.
use Rattle.std.specs.Prelude.{◌≤◌}
use Rattle.words_line.specs.declared.command.Command.{Command}
use Rattle.words_line.specs.declared.command.Command.TheVariants.{Run, Plan, Gen}

-- a run has at most 1,000,000 host ticks, and a load 2 to 32 guests
abbrev pub IsInRange : Command → Type 0
IsInRange (Run file t view) = t ≤ 1000000
IsInRange (Plan file) = Unit {0}
IsInRange (Gen n t) = (2 ≤ n) × (n ≤ 32) × (t ≤ 1000000)
