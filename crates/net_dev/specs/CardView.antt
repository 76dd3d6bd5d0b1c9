-- What contracts see of a nic that is set up.
use Rattle.dev_face.specs.NetStates.{NetState}
use Rattle.net_dev.specs.declared.card.Card.{Card}

abbrev pub card_state : Card → NetState
card_state c = record {
  coming = c.coming;
  guest = c.guest;
  nic = c.nic;
  slot = c.slot;
  regs = c.regs;
  notified = c.notified;
  receives = c.receives;
  transmits = c.transmits;
  backlog = c.backlog.items;
}
