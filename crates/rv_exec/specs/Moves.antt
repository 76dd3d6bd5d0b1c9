-- What a step leaves of the plain state of its bus.
use Rattle.std.specs.Prelude.{◌≡◌, ℕ, ◌⊎◌, Ok}
use Rattle.tb_base.specs.declared.width.Width.{Width}
use Rattle.rv_exec.specs.BusOf.{BusOf}

-- the second state is the first, or what one store leaves of it
abbrev pub Moves : {S : Type 0} → BusOf S → S → S → Type 0
Moves b s s' = (s' ≡ s) ⊎ ((addr : ℕ) × ((width : Width) × ((value : ℕ) × (b.stored s addr width value ≡ Ok s'))))
