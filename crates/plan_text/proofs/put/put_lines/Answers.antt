use Rattle.std.proofs.Common.{ℕ, List, arith, subst, ◌∙◌}
use Rattle.tb_io.specs.Puts.{Takes, TakesPart}
use Rattle.plan_text.proofs.Pieces.{line_taken, line_cut}
use Rattle.plan_text.proofs.put.put_lines.Goals as goal

pub returns-in-Err-clause-failed : goal.returns-in-Err-clause-failed
returns-in-Err-clause-failed g c =
    line_cut (g.O.Sink.taken c.args.out.now) (g.O.Sink.taken c.loop-line.out) (g.O.Sink.taken c.put.new.self) c.args.lines.now c.loop-line.line-index c.line-item.result
    (omega arith) c.line-item.is c.loop-line.invariant.taken
    (subst (λ (x : List ℕ). TakesPart (g.O.Sink.taken c.loop-line.out) (g.O.Sink.taken c.put.new.self) x) c.as_slice.ensures c.in-Err.ensures.failed)

pub loop-line-preserved : goal.loop-line-preserved
loop-line-preserved g c = record {
  taken =
      line_taken (g.O.Sink.taken c.args.out.now) (g.O.Sink.taken c.loop-line.out) (g.O.Sink.taken c.put.new.self) c.args.lines.now c.loop-line.line-index c.line-item.result
      (omega arith) c.line-item.is c.loop-line.invariant.taken
      (subst (λ (x : List ℕ). Takes (g.O.Sink.taken c.loop-line.out) (g.O.Sink.taken c.put.new.self) x) c.as_slice.ensures c.in-Ok.ensures.ok);
  unfailed = c.in-Ok.ensures.cause.ok ∙ c.loop-line.invariant.unfailed;
}
