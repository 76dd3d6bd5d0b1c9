use Rattle.std.proofs.Common.{rules}
use Rattle.tb_io.proofs.Parts.{taken_part}
use Rattle.tb_io.proofs.mem_sink.MemSinkSink.put.Goals as goal

pub returns-clause-failed : goal.returns-clause-failed
returns-clause-failed c =
    taken_part c.args.self.now.bytes c.extend_from_slice.new.self.items c.args.piece.now c.min-cut.result (search rules)
