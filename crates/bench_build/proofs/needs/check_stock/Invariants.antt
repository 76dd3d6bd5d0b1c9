use Rattle.std.proofs.Common.{◌<◌, ◌≤◌}
use Rattle.dev_face.specs.declared.kind.Kind.{Kind}
use Rattle.bench_build.specs.Stocks.{needs, rank, counts, items_of}
use Rattle.bench_build.proofs.needs.check_stock.Given as goal

abbrev pub invariant-loop-kind : goal.invariant-loop-kind
invariant-loop-kind g l = (j : Kind) → rank j < l.kind-index → needs l.e j ≤ counts (items_of l.stock) j
