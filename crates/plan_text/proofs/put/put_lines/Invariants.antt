use Rattle.std.proofs.Common.{◌≡◌, take}
use Rattle.std.specs.List.{concat}
use Rattle.tb_io.specs.Puts.{Takes}
use Rattle.plan_text.proofs.put.put_lines.Given as goal

abbrev pub invariant-loop-line : goal.invariant-loop-line
invariant-loop-line g l = record {
  taken : Takes (g.O.Sink.taken l.initial.out) (g.O.Sink.taken l.out) (concat (take l.line-index l.lines));
  unfailed : g.O.Sink.faults l.out ≡ g.O.Sink.faults l.initial.out;
}
