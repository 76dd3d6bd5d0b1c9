use Rattle.tb_top.proofs.Common.{◌≡◌, ◌++◌, map, take, shown_byte}
use Rattle.tb_top.proofs.report.add_key.Given as goal

abbrev pub invariant-loop-b : goal.invariant-loop-b
invariant-loop-b l = l.line ≡ l.initial.line ++ map shown_byte (take l.b-index l.key)
