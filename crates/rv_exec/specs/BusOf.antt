-- What a bus answers, as functions of its plain state.
use Rattle.std.specs.Prelude.{ℕ, Bool, Result}
use Rattle.tb_base.specs.declared.width.Width.{Width}
use Rattle.guest_ram.specs.declared.fault.MemFault.{MemFault}
use Rattle.csr_file.specs.declared.lines.Lines.{Lines}

-- what a fetch and a load answer, which change nothing; the state that a store leaves, or why it is
-- refused, and then nothing changes; the lines, the virtual tick, and whether the machine is stopped
pub record BusOf (S : Type 0) : Type 0 where
  pub fetched : S → ℕ → Result ℕ MemFault
  pub loaded : S → ℕ → Width → Result ℕ MemFault
  pub stored : S → ℕ → Width → ℕ → Result S MemFault
  pub lines_of : S → Lines
  pub now_of : S → ℕ
  pub is_stopped : S → Bool
