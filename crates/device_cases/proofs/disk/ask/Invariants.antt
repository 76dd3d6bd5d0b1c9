use Rattle.std.proofs.Common.{◌≡◌, length}
use Rattle.device_cases.proofs.disk.ask.Given as goal

abbrev pub invariant-words : goal.invariant-words
invariant-words l = length l.ram ≡ length l.fn.ram
