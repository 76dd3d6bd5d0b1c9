-- When an answer may say that something outside failed.
use Rattle.std.specs.Prelude.{◌≡◌, ℕ, ◌+◌, ◌-◌, ◌^◌, ◌≤◌, min, Bool, Result, Err, OnOk, OnErr, if◌then◌else◌}
use Rattle.tb_io.specs.declared.write_err.WriteErr.{WriteErr}
use Rattle.tb_io.specs.declared.write_err.WriteErr.TheVariants.{NoMemory, Failed}

-- a counter after one more: it stays at the greatest number that it holds
abbrev pub one_more : ℕ → ℕ
one_more n = min (n + 1) (2 ^ 64 - 1)

-- the count of faults rose, where one at its top is read as risen
abbrev pub Rose : ℕ → ℕ → Type 0
Rose before now = one_more before ≤ now

-- the count never falls, a call that went well leaves it, and a failure comes only where it rose
pub record HasCause {T E : Type 0} (before now : ℕ) (result : Result T E) : Type 0 where
  pub later : before ≤ now
  pub ok : OnOk result (now ≡ before)
  pub failed : OnErr result (Rose before now)

-- the count of faults after a call, by whether it failed
abbrev pub faults_after : ℕ → Bool → ℕ
faults_after before failed = if failed then one_more before else before

-- where one error tells of want of memory and another of a put that failed: the count never falls, the second
-- comes only where it rose, and after `Ok` and the first it stands as it was
pub record TellsCause {T E : Type 0} (memory put : E) (before now : ℕ) (result : Result T E) : Type 0 where
  pub later : before ≤ now
  pub ok : OnOk result (now ≡ before)
  pub no_memory : result ≡ Err memory → now ≡ before
  pub failed : result ≡ Err put → Rose before now

abbrev pub WriteCause : {T : Type 0} → ℕ → ℕ → Result T WriteErr → Type 0
WriteCause before now result = TellsCause NoMemory Failed before now result
