use Rattle.std.proofs.Common.{length}
use Rattle.machine_cases.proofs.cases.walks.drive.Goals as goal

pub end_all-requires-clause-begun : goal.end_all-requires-clause-begun
end_all-requires-clause-begun g c =
    let size = length c.begin_all.new.ram in
    c.store_at-high.ensures.coming 1 size (c.store_at-low.ensures.coming 1 size c.in_ok-begin_all.ensures.coming)
