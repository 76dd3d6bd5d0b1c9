-- What a name holds follows from what was added.
use Rattle.std.proofs.Common.{◌≡◌, ℕ, List, [], Option, Some, unwrap_or, Result, Ok, Err, OnErr, ap}
use Rattle.tb_io.proofs.sure_files.SureFiles.add.Goals as goal

abbrev surely : (List ℕ → Option (List ℕ)) → List ℕ → Option (List ℕ)
surely held name = Some (unwrap_or (held name) [])

same_held : {T E : Type 0} (r : Result T E) (new old : List ℕ → Option (List ℕ)) → OnErr r (new ≡ old) → OnErr r (surely new ≡ surely old)
same_held (Ok v) new old h = tt
same_held (Err e) new old h = ap surely h

pub returns-clause-refused : goal.returns-clause-refused
returns-clause-refused c = same_held c.add.result _ _ c.add.ensures.refused
