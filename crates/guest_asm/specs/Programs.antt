-- Programs as lists of bytes.
use Rattle.std.specs.Prelude.{ℕ, ◌+◌, ◌-◌, List, ◌++◌, length, replicate, take, drop}
use Rattle.std.specs.Int.{w32, to_le_bytes}

-- the bytes, with zeros behind them up to a length
abbrev pub padded : List ℕ → ℕ → List ℕ
padded bytes len = bytes ++ replicate (len - length bytes) 0

-- the bytes with a word at an offset, low byte first
abbrev pub with_word_at : List ℕ → ℕ → ℕ → List ℕ
with_word_at bytes off word =
    take off (padded bytes (off + 4)) ++ to_le_bytes w32 word ++ drop (off + 4) (padded bytes (off + 4))
