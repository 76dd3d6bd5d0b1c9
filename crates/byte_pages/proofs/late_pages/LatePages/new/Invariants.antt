use Rattle.std.proofs.Common.{◌≡◌, None, replicate}
use Rattle.byte_pages.proofs.late_pages.LatePages.new.Given as goal

abbrev pub invariant-loop : goal.invariant-loop
invariant-loop l = l.table.items ≡ replicate l.counter None
