-- The values that a load or a change of a CSR chooses among, by the choice.
use Rattle.std.specs.Prelude.{ℕ}
use Rattle.rv_arith.specs.Words.{word_sext8, word_sext16}
use Rattle.rv_exec.specs.declared.csr_change.CsrChange.{CsrChange}
use Rattle.rv_exec.specs.declared.csr_change.CsrChange.TheVariants.{Write, Set, Clear}
use Rattle.rv_exec.specs.declared.extension.Extension.{Extension}
use Rattle.rv_exec.specs.declared.extension.Extension.TheVariants.{Zeros, SignedByte, SignedHalf}
use Rattle.rv_exec.specs.Meaning.{as_is, csrrw_value, csrrs_value, csrrc_value}

-- what a change makes of the old value and the operand
abbrev pub changed_by : CsrChange → ℕ → ℕ → ℕ
changed_by Write = csrrw_value
changed_by Set = csrrs_value
changed_by Clear = csrrc_value

-- what a loaded number becomes
abbrev pub extended_by : Extension → ℕ → ℕ
extended_by Zeros = as_is
extended_by SignedByte = word_sext8
extended_by SignedHalf = word_sext16
