use Rattle.std.proofs.Common.{◌≡◌, ◌++◌, [], map, take, drop}
use Rattle.lookahead_core.proofs.ports.clear_all.Given as goal

abbrev pub invariant-loop-i : goal.invariant-loop-i
invariant-loop-i l = map (λ v. v.items) l.lists ≡ map (λ _. []) (take l.i (map (λ v. v.items) l.fn.lists)) ++ drop l.i (map (λ v. v.items) l.fn.lists)
