use Rattle.exp_file.proofs.Forms.{name_length}
use Rattle.exp_file.proofs.file_table.FileTable.maybe_name.Goals as goal

pub copy_of-requires : goal.copy_of-requires
copy_of-requires c = name_length c.args.form c.in-Ok-Some.t.now c.requires (rw c.in-Ok-Some.field-0-is at c.in-Ok-Some.ensures.form)
