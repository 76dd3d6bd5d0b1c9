use Rattle.std.proofs.Common.{◌≡◌}
use Rattle.lookahead_core.specs.CoreWords.{node_count}
use Rattle.core_cases.proofs.tests.sleepers.played.Given as goal

abbrev pub invariant-loop-who : goal.invariant-loop-who
invariant-loop-who l = node_count l.core ≡ 2
