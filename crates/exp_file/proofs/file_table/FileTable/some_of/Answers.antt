use Rattle.std.proofs.Common.{sym}
use Rattle.exp_file.specs.TableOf.{table_at}
use Rattle.exp_file.proofs.Documents.{some_of-some}
use Rattle.exp_file.proofs.file_table.FileTable.some_of.Goals as goal

pub returns-else-is_empty-clause-given : goal.returns-else-is_empty-clause-given
returns-else-is_empty-clause-given c =
    some_of-some (table_at c.args.self.now.section c.args.self.now.index c.args.self.now.table.now) c.args.key.now c.args.none c.args.values.now (sym c.if-is_empty.ensures)
