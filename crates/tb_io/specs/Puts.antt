-- What a sink has taken.
use Rattle.std.specs.Prelude.{◌≡◌, ℕ, List, ◌++◌, Option, Some, IfSome}

-- new tells the old bytes and then these
abbrev pub Takes : Option (List ℕ) → Option (List ℕ) → List ℕ → Type 0
Takes old new bytes = IfSome old (λ o. new ≡ Some (o ++ bytes))

-- bytes is what was taken and then a rest
pub record IsCut (bytes taken : List ℕ) : Type 0 where
  pub rest : List ℕ
  pub whole : bytes ≡ taken ++ rest

-- new tells the old bytes and then a prefix of these
abbrev pub TakesPart : Option (List ℕ) → Option (List ℕ) → List ℕ → Type 0
TakesPart old new bytes = (part : List ℕ) × IsCut bytes part × Takes old new part
