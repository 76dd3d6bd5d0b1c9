-- The values of the registers that are kept.
use Rattle.std.specs.Prelude.{ℕ, Bool, true, false}

-- `enabled` is MIE of mstatus and `was_enabled` its MPIE
pub record Csrs : Type 0 where
  pub enabled : Bool
  pub was_enabled : Bool
  pub mie : ℕ
  pub mtvec : ℕ
  pub mscratch : ℕ
  pub mepc : ℕ
  pub mcause : ℕ
  pub mtval : ℕ

abbrev pub bit_of : Bool → ℕ
bit_of true = 1
bit_of false = 0
