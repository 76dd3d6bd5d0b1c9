-- Numbers in a list of bytes, low byte first, and lists of bytes with some bytes put anew.
use Rattle.std.specs.Prelude.{ℕ, ◌+◌, ◌*◌, ◌/◌, ◌%◌, ◌^◌, List, length, slice_index, slice_set, take, drop, ◌++◌}

-- the number of two bytes
abbrev pub half_at : List ℕ → ℕ → ℕ
half_at bytes at = slice_index bytes at + 2 ^ 8 * slice_index bytes (at + 1)

-- the number of four bytes
abbrev pub word_at : List ℕ → ℕ → ℕ
word_at bytes at =
    slice_index bytes at + 2 ^ 8 * slice_index bytes (at + 1) + 2 ^ 16 * slice_index bytes (at + 2) + 2 ^ 24 * slice_index bytes (at + 3)

-- the bytes after two were put
abbrev pub with_half : List ℕ → ℕ → ℕ → List ℕ
with_half bytes at v = slice_set (slice_set bytes at (v % 2 ^ 8)) (at + 1) (v / 2 ^ 8 % 2 ^ 8)

-- the bytes after four were put
abbrev pub with_word : List ℕ → ℕ → ℕ → List ℕ
with_word bytes at v =
    slice_set (slice_set (with_half bytes at v) (at + 2) (v / 2 ^ 16 % 2 ^ 8)) (at + 3) (v / 2 ^ 24 % 2 ^ 8)

-- the bytes after these stand from a place on
abbrev pub with_bytes : List ℕ → ℕ → List ℕ → List ℕ
with_bytes bytes at put = take at bytes ++ put ++ drop (at + length put) bytes
