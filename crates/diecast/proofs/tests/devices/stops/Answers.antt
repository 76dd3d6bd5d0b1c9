-- Boxes of four kinds are a stock.
use Rattle.diecast.proofs.Supplied.{is_stock}
use Rattle.diecast.proofs.tests.devices.stops.Goals as goal

pub diecast-status-requires : goal.diecast-status-requires
diecast-status-requires g c = record {
  stock = is_stock _ c.args.clints.items c.args.uarts.items c.args.blks.items c.args.nets.items c.requires.clints c.requires.uarts c.requires.blks c.requires.nets;
}
