use Rattle.std.proofs.Common.{arith}
use Rattle.std.proofs.lemmas.Map.Text.{text_keys}
use Rattle.tb_io.proofs.mem_files.MemFiles.add.Goals as goal

pub returns-in-Ok-insert-clause-others : goal.returns-in-Ok-insert-clause-others
returns-in-Ok-insert-clause-others c = λ other h. grind (arith, text_keys)
