use Rattle.std.proofs.Common.{length}
use Rattle.tb_io.proofs.Parts.{Wrote}
use Rattle.tb_io.proofs.host_sink.write_piece.Given as goal

abbrev pub invariant-loop-rest : goal.invariant-loop-rest
invariant-loop-rest g l = Wrote (g.W.Write.contents l.initial.to) (g.W.Write.contents l.to) l.fn.piece l.rest

abbrev pub decreases-loop-rest : goal.decreases-loop-rest
decreases-loop-rest g l = length l.rest
