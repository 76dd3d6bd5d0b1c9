use Rattle.exp_file.proofs.Forms.{name_length}
use Rattle.exp_file.proofs.file_table.FileTable.name.Goals as goal

pub copy_of-requires : goal.copy_of-requires
copy_of-requires c = name_length c.args.form c.in-Ok.t.now c.requires c.in-Ok.ensures.form
