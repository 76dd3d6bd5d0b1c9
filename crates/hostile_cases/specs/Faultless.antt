-- How a command ends where no file and no put fails.
use Rattle.std.specs.Prelude.{None}
use Rattle.tb_top.specs.World.{SinkSeen}
use Rattle.tb_top.specs.declared.status.Status.{Status}
use Rattle.tb_top.specs.declared.status.Status.TheVariants.{ReadFault, WriteFault}

-- neither a fault of a file nor one of the output is told
abbrev pub IsFaultless : Status → Type 0
IsFaultless (ReadFault f) = ⊥
IsFaultless WriteFault = ⊥
IsFaultless _ = Unit {0}

-- what is seen of an output that does not tell its bytes, and does not fail
abbrev pub untold : SinkSeen
untold = record { taken = None; faults = 0 }
