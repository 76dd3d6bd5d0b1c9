use Rattle.std.proofs.Common.{◌≡◌, [], length}
use Rattle.host_journal.specs.Holding.{Holds}
use Rattle.host_journal.proofs.guest_keep.none_held.Given as goal

abbrev pub invariant-loop : goal.invariant-loop
invariant-loop g l = record {
  count : length l.held.items ≡ l.counter;
  empty : Holds g.H.Held.has l.held.items (λ _. []);
}
