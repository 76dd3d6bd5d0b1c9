-- How many bytes an access moves.
use Rattle.std.specs.Prelude.{ℕ}
use Rattle.tb_base.specs.declared.width.Width.{Width}
use Rattle.tb_base.specs.declared.width.Width.TheVariants.{Byte, Half, Word}

abbrev pub width_bytes : Width → ℕ
width_bytes Byte = 1
width_bytes Half = 2
width_bytes Word = 4
