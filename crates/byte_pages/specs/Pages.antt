-- A byte array by pages. A page has 4096 bytes, and the last one may be shorter. A page that is not there reads as zeros.
use Rattle.std.specs.Prelude.{◌≡◌, ℕ, ◌+◌, ◌/◌, ◌<◌, ◌≤◌, Bool, true, false, List, slice_index_or}

-- the bytes, and for each page whether it is there
pub record PageState : Type 0 where
  pub bytes : List ℕ
  pub there : List Bool

-- how many pages so many bytes have
abbrev pub page_count : ℕ → ℕ
page_count len = (len + 4095) / 4096

-- whether the page of a byte is there
abbrev pub is_there : PageState → ℕ → Bool
is_there p at = slice_index_or p.there (at / 4096) false

-- the pages of each byte of a range are there
abbrev pub AreThere : PageState → ℕ → ℕ → Type 0
AreThere p at len = (i : ℕ) → at ≤ i → i < at + len → is_there p i ≡ true

-- the page of a byte has a byte of a range
abbrev pub IsTouched : ℕ → ℕ → ℕ → Type 0
IsTouched at len i = (k : ℕ) × (at ≤ k) × (k < at + len) × (k / 4096 ≡ i / 4096)
