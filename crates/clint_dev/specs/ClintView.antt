-- What contracts see of a Clint.
use Rattle.std.specs.Prelude.{if◌then◌else◌}
use Rattle.dev_face.specs.States.{DevState, Blank, ClintAt}
use Rattle.dev_face.specs.declared.kind.Kind.TheVariants as kind
use Rattle.clint_dev.specs.declared.clint.Clint.{Clint}

abbrev pub clint_state : Clint → DevState
clint_state c = if c.is_set_up then ClintAt (record { coming = c.coming; msip = c.msip; mtimecmp = c.mtimecmp }) else Blank kind.Clint
