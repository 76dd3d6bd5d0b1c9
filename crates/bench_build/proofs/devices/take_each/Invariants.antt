use Rattle.std.proofs.Common.{◌≡◌, ◌+◌, ◌++◌, map, take, drop}
use Rattle.dev_face.specs.States.{opening}
use Rattle.dev_face.specs.declared.kind.Kind.{Kind}
use Rattle.bench_build.specs.Stocks.{IsStock, counts, items_of}
use Rattle.bench_build.specs.Takings.{number_for}
use Rattle.bench_build.proofs.devices.take_each.Given as goal

abbrev pub invariant-loop-config : goal.invariant-loop-config
invariant-loop-config g l = record {
  stock : IsStock g.D.Device.state (items_of l.stock);
  left : (k : Kind) → counts (items_of l.stock) k + number_for k l.configs ≡ counts (items_of l.fn.stock) k + number_for k (drop l.config-index l.configs);
  opened : map g.D.Device.state l.devices.items ≡ map g.D.Device.state l.fn.devices.items ++ map opening (take l.config-index l.configs);
}
