-- What contracts see of a net device.
use Rattle.std.specs.Prelude.{Option, Some, None}
use Rattle.dev_face.specs.States.{DevState, Blank, NetAt}
use Rattle.dev_face.specs.declared.kind.Kind.TheVariants as kind
use Rattle.net_dev.specs.declared.nic.Nic.{Nic}
use Rattle.net_dev.specs.declared.card.Card.{Card}
use Rattle.net_dev.specs.CardView.{card_state}

abbrev pub state_of : Option Card → DevState
state_of None = Blank kind.Net
state_of (Some c) = NetAt (card_state c)

abbrev pub nic_state : Nic → DevState
nic_state n = state_of n.card
