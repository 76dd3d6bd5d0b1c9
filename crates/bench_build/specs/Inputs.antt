-- What is read for an experiment beside its file.
use Rattle.std.specs.Prelude.{ℕ, List, [], ◌∷◌, ◌++◌, Option, Some, None}

-- the image of each guest, and what each disk holds at first, in the order of the file
pub record Inputs : Type 0 where
  pub images : List (List ℕ)
  pub disks : List (List ℕ)

abbrev pub no_inputs : Inputs
no_inputs = record { images = []; disks = [] }

-- with the image of the next guest, or what the next disk holds
abbrev pub with_image : Inputs → List ℕ → Inputs
with_image i b = record i { images = i.images ++ b ∷ [] }

abbrev pub with_disk : Inputs → List ℕ → Inputs
with_disk i b = record i { disks = i.disks ++ b ∷ [] }

-- a disk without an image holds no bytes, and so zeros all through
abbrev pub content_of : Option (List ℕ) → List ℕ
content_of None = []
content_of (Some b) = b
