-- Four empty lists are a stock.
use Rattle.hostile_cases.proofs.Nothing.{no_devices}
use Rattle.hostile_cases.proofs.cases.tells.Goals as goal

pub run_surely-requires : goal.run_surely-requires
run_surely-requires c = record {
  stock = no_devices _ c.new-clints.result.items c.new-uarts.result.items c.new-blks.result.items c.new-nets.result.items
      c.new-clints.ensures.items c.new-uarts.ensures.items c.new-blks.ensures.items c.new-nets.ensures.items;
}
