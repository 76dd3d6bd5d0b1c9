use Rattle.run_views.proofs.Common.{◌≡◌, map, take}
use Rattle.run_views.proofs.runs.names_of.Given as goal

abbrev pub invariant-loop-guest : goal.invariant-loop-guest
invariant-loop-guest l = l.names.items ≡ map (λ g. g.name) (take l.guest-index l.guests)
