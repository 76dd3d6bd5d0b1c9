use Rattle.std.proofs.Common.{arith}
use Rattle.tb_io.proofs.Parts.{wrote_slice}
use Rattle.tb_io.proofs.host_sink.write_piece.Goals as goal

pub loop-rest-preserved : goal.loop-rest-preserved
loop-rest-preserved g c =
    wrote_slice (g.W.Write.contents c.args.to.now) (g.W.Write.contents c.loop-rest.to) (g.W.Write.contents c.write.new.self) c.args.piece.now c.loop-rest.rest.now c.in-Ok.count _ (omega arith) c.loop-rest.invariant c.in-Ok.ensures.bytes
