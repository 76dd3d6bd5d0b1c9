-- What files hold whose reads do not fail.
use Rattle.std.specs.Prelude.{ℕ, List, [], Option, Some, unwrap_or}
use Rattle.tb_io.specs.FilesInMemory.{held_in}
use Rattle.tb_io.specs.declared.sure_files.SureFiles.{SureFiles}

-- what a name holds: the bytes that were added, or none
abbrev pub held_surely : SureFiles → List ℕ → Option (List ℕ)
held_surely files name = Some (unwrap_or (held_in files.given name) [])
