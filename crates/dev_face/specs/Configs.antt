-- The configuration of a virtio device: bytes that can be read in any width, and 0 past their end.
use Rattle.std.specs.Prelude.{ℕ, ◌+◌, ◌*◌, ◌^◌, List, slice_index_or}
use Rattle.tb_base.specs.declared.width.Width.{Width}
use Rattle.tb_base.specs.declared.width.Width.TheVariants.{Byte, Half, Word}

-- the byte at a place
abbrev pub config_byte : List ℕ → ℕ → ℕ
config_byte bytes at = slice_index_or bytes at 0

-- the number from a place on, low byte first
abbrev pub config_value : List ℕ → ℕ → Width → ℕ
config_value bytes at Byte = config_byte bytes at
config_value bytes at Half = config_byte bytes at + 2 ^ 8 * config_byte bytes (at + 1)
config_value bytes at Word =
    config_byte bytes at + 2 ^ 8 * config_byte bytes (at + 1) + 2 ^ 16 * config_byte bytes (at + 2) + 2 ^ 24 * config_byte bytes (at + 3)
