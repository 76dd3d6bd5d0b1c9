-- A byte array as a table of its pages.
use Rattle.std.specs.Prelude.{ℕ, ◌/◌, ◌%◌, ◌==◌, if◌then◌else◌, Bool, true, List, length, map, replicate, slice_index, slice_index_or, Option, None, Some, is_some}
use Rattle.std.specs.List.{range_with_len}
use Rattle.byte_pages.specs.Pages.{PageState, page_count}

-- a byte of a page
abbrev pub byte_in : Option (List ℕ) → ℕ → ℕ
byte_in None i = 0
byte_in (Some page) i = slice_index page i

-- a byte of the array
abbrev pub byte_of : List (Option (List ℕ)) → ℕ → ℕ
byte_of table at = byte_in (slice_index_or table (at / 4096) None) (at % 4096)

-- as many bytes by such a table
abbrev pub bytes_of : List (Option (List ℕ)) → ℕ → List ℕ
bytes_of table len = map (byte_of table) (range_with_len 0 len)

-- whether each page is there
abbrev pub there_of : List (Option (List ℕ)) → List Bool
there_of table = map is_some table

-- all bytes in one block, of which each page is there
abbrev pub whole : List ℕ → PageState
whole bytes = record { bytes = bytes; there = replicate (page_count (length bytes)) true }

-- the bytes lie in one block, or by pages where the block is empty
abbrev pub state_of : List ℕ → PageState → PageState
state_of block late = if length block == 0 then late else whole block
