use Rattle.exp_file.proofs.Steps.{IsAlong}
use Rattle.exp_file.proofs.each.read_each.Given as goal

abbrev pub invariant-loop-value : goal.invariant-loop-value
invariant-loop-value g l = record {
  kept : g.S.Step.keeps l.step l.items.items;
  along : IsAlong (g.S.Step.says l.step) l.items.items l.values l.value-index;
}
