-- The boxes of the program.
use Rattle.std.specs.Prelude.{ℕ}
use Rattle.dev_face.specs.declared.kind.Kind.{Kind}
use Rattle.dev_face.specs.declared.kind.Kind.TheVariants as kind

-- how many there are of each kind
abbrev pub boxes : Kind → ℕ
boxes kind.Clint = 32
boxes kind.Uart = 32
boxes kind.Blk = 64
boxes kind.Net = 128
