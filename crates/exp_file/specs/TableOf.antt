-- What a element of the code stands for, and answers that hold a element, or a list of values.
use Rattle.std.specs.Prelude.{◌≡◌, ℕ, List, Result, Ok, Err, String}
use Rattle.std.specs.BTreeMap.{BTreeMap}
use Rattle.std.specs.Borrow.{Bor}
use Rattle.std.specs.declared.alloc.Global.{Global}
use Rattle.toml.specs.declared.value.Value.{Value}
use Rattle.toml.specs.Data.{Items}
use Rattle.toml.specs.View.{items_view, table_view}
use Rattle.exp_file.specs.declared.file_table.FileTable.{FileTable}
use Rattle.exp_file.specs.declared.section.Section.{Section}
use Rattle.exp_file.specs.declared.exp_fault.ExpErr.{ExpErr}
use Rattle.exp_file.specs.declared.exp_why.ExpWhy.{ExpWhy}
use Rattle.exp_file.specs.declared.exp_fault.ExpFault.{ExpFault}
use Rattle.exp_file.specs.Keys.{Fails, Table}

-- the table that a element holds
abbrev pub table_at : Section → ℕ → BTreeMap (String Global) Value → Table
table_at s i t = record { section = s; index = i; members = table_view t }

abbrev pub TableGives : Result FileTable ExpErr → Result Table ExpFault → Type 0
TableGives (Ok r) read = read ≡ Ok (table_at r.section r.index r.table.now)
TableGives (Err e) read = Fails e read

abbrev pub ArrayAt : Result (Bor (List Value)) ExpWhy → Result Items ExpWhy → Type 0
ArrayAt (Ok vs) read = read ≡ Ok (items_view vs.now)
ArrayAt (Err why) read = read ≡ Err why

abbrev pub ItemsGive : Result (Bor (List Value)) ExpErr → Result Items ExpFault → Type 0
ItemsGive (Ok vs) read = read ≡ Ok (items_view vs.now)
ItemsGive (Err e) read = Fails e read
