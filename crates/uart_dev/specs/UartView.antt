-- What contracts see of a Uart.
use Rattle.std.specs.Prelude.{if◌then◌else◌}
use Rattle.dev_face.specs.States.{DevState, Blank, UartAt}
use Rattle.dev_face.specs.declared.kind.Kind.TheVariants as kind
use Rattle.uart_dev.specs.declared.uart.Uart.{Uart}

abbrev pub uart_state : Uart → DevState
uart_state u = if u.is_set_up then UartAt (record { coming = u.coming }) else Blank kind.Uart
