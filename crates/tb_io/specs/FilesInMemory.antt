-- What files in memory hold, and what their reads answer.
use Rattle.std.specs.Prelude.{ℕ, List, [], ◌∷◌, ◌++◌, length, Option, None, Some, option_map, Result, Ok, Err, Bool, ◌==◌, nat_lt, if◌then◌else◌}
use Rattle.std.specs.List.{list_any}
use Rattle.std.specs.BTreeMap.{get_by_text}
use Rattle.tb_io.specs.Causes.{one_more, faults_after}
use Rattle.tb_io.specs.Reads.{has_failed}
use Rattle.tb_io.specs.declared.files.ReadErr.{ReadErr}
use Rattle.tb_io.specs.declared.files.ReadErr.TheVariants.{Failed, TooLong}
use Rattle.tb_io.specs.declared.mem_files.MemFiles.{MemFiles}

-- what a name holds
abbrev pub held_in : MemFiles → List ℕ → Option (List ℕ)
held_in files name = option_map (λ v. v.items) (get_by_text files.entries name)

-- what is counted of the reads: how many were made, the numbers of those that are to fail, how
-- many failed, and the name of the last that failed
pub record Reads : Type 0 where
  pub calls : ℕ
  pub failing : List ℕ
  pub faults : ℕ
  pub fault_name : List ℕ

abbrev pub reads_of : MemFiles → Reads
reads_of files = record { calls = files.calls; failing = files.failing.items; faults = files.faults; fault_name = files.fault_name.items }

-- no read was made, and none is to fail
abbrev pub no_reads : Reads
no_reads = record { calls = 0; failing = []; faults = 0; fault_name = [] }

-- this read is to fail too
abbrev pub failing_too : Reads → ℕ → Reads
failing_too r call = record { calls = r.calls; failing = r.failing ++ call ∷ []; faults = r.faults; fault_name = r.fault_name }

-- whether the next read is one of those that are to fail. Reads are numbered from 1
abbrev pub is_next_failing : Reads → Bool
is_next_failing r = list_any (λ call. call == one_more r.calls) r.failing

-- what a file gives of which at most so many bytes are asked for
abbrev pub file_within : Option (List ℕ) → ℕ → Result (List ℕ) ReadErr
file_within None limit = Err Failed
file_within (Some bytes) limit = if nat_lt limit (length bytes) then Err TooLong else Ok bytes

-- what the next read answers, where it finds memory
abbrev pub next_read : MemFiles → List ℕ → ℕ → Result (List ℕ) ReadErr
next_read files name limit = if is_next_failing (reads_of files) then Err Failed else file_within (held_in files name) limit

-- what is counted after one more read of this name
abbrev pub after_read : {T : Type 0} → Reads → List ℕ → Result T ReadErr → Reads
after_read r name result =
    record { calls = one_more r.calls; failing = r.failing; faults = faults_after r.faults (has_failed result); fault_name = if has_failed result then name else r.fault_name }
