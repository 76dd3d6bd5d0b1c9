-- How the program ends.
use Rattle.std.specs.Prelude.{ℕ, List, Result, Ok, Err, codes}
use Rattle.tb_io.specs.declared.sink.PutErr.{PutErr}
use Rattle.tb_top.specs.declared.status.Status.{Status}
use Rattle.tb_top.specs.declared.status.Status.TheVariants.{Done, Overload, Usage, Experiment, Build, TooLong, ReadFault, WriteFault, Memory}

-- the exit status of each end of a command
abbrev pub code_of : Status → ℕ
code_of Done = 0
code_of (Overload slot need have) = 1
code_of (Usage fault) = 2
code_of (Experiment fault) = 3
code_of (Build fault) = 4
code_of (TooLong file) = 4
code_of (ReadFault file) = 5
code_of WriteFault = 6
code_of Memory = 7

-- the exit status of the program: that of its command, or that of a write fault where standard output did not take all
abbrev pub exit_code : Status → Result (Unit {0}) PutErr → ℕ
exit_code s (Ok _) = code_of s
exit_code s (Err _) = 6

-- its line on standard error, after a command that told this one
abbrev pub last_line : List ℕ → Result (Unit {0}) PutErr → List ℕ
last_line told (Ok _) = told
last_line told (Err _) = codes "diecast: write fault\n"
