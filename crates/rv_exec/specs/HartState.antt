-- What contracts see of a hart.
use Rattle.std.specs.Prelude.{ℕ, Bool, List}
use Rattle.csr_file.specs.Csrs.{Csrs}

-- the 32 registers, of which that of x0 is not read; the pc; whether the hart waits after WFI; its control
-- and status registers; how many steps it made, and how many instructions it retired, both modulo 2 ^ 64
pub record HartState : Type 0 where
  pub regs : List ℕ
  pub pc : ℕ
  pub waiting : Bool
  pub csrs : Csrs
  pub steps : ℕ
  pub retired : ℕ
