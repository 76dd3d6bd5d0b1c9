use Rattle.std.proofs.Common.{◌≡◌, length}
use Rattle.core_cases.proofs.tests.slots.keeper.Given as goal

abbrev pub invariant-loop : goal.invariant-loop
invariant-loop l = length l.names.items ≡ l.counter
