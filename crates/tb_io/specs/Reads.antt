-- What a read of a file answers.
use Rattle.std.specs.Prelude.{◌≡◌, ℕ, ◌<◌, ◌≤◌, List, length, Option, IfSome, Result, Ok, Err, Vec, Bool, true, false}
use Rattle.std.specs.declared.alloc.Global.{Global}
use Rattle.tb_io.specs.Causes.{Rose}
use Rattle.tb_io.specs.declared.files.ReadErr.{ReadErr}
use Rattle.tb_io.specs.declared.files.ReadErr.TheVariants.{Failed, TooLong, NoMemory}

-- what a read answers of a file that is told to hold these bytes, or of which nothing is told
abbrev pub Answers : Option (List ℕ) → ℕ → Result (Vec ℕ Global) ReadErr → Type 0
Answers told limit (Ok v) = (length v.items ≤ limit) × IfSome told (λ b. v.items ≡ b)
Answers told limit (Err TooLong) = IfSome told (λ b. limit < length b)
Answers told limit (Err _) = Unit {0}

-- the count and the fault name after a read of this name: only a read that failed changes them
abbrev pub Faults : Result (Vec ℕ Global) ReadErr → List ℕ → ℕ × List ℕ → ℕ × List ℕ → Type 0
Faults (Err Failed) name old new = (old.0 ≤ new.0) × Rose old.0 new.0 × (new.1 ≡ name)
Faults (Err _) name old new = (new.0 ≡ old.0) × (new.1 ≡ old.1)
Faults (Ok _) name old new = (new.0 ≡ old.0) × (new.1 ≡ old.1)

-- whether a read's answer tells of a fault
abbrev pub is_fault : ReadErr → Bool
is_fault Failed = true
is_fault _ = false

-- whether a read failed
abbrev pub has_failed : {T : Type 0} → Result T ReadErr → Bool
has_failed (Err e) = is_fault e
has_failed (Ok _) = false

-- a read answers this, or finds no memory
abbrev pub Gives : Result (List ℕ) ReadErr → Result (Vec ℕ Global) ReadErr → Type 0
Gives due (Ok v) = due ≡ Ok v.items
Gives due (Err NoMemory) = Unit {0}
Gives due (Err e) = due ≡ Err e
