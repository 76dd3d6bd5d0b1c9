use Rattle.net_dev.specs.CardView.{card_state}
use Rattle.net_dev.proofs.Storing.{stored_coming}
use Rattle.net_dev.proofs.nic.NicDevice.store.Goals as goal

pub returns-in-Some-clause-coming : goal.returns-in-Some-clause-coming
returns-in-Some-clause-coming c tick n h =
    stored_coming c.args.self.now.card c.in-Some.card (card_state c.store.new.self) c.args.off c.args.width c.args.value tick n c.in-Some.is c.store.ensures.after h
