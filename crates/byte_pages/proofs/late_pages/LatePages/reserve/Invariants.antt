use Rattle.std.proofs.Common.{◌≡◌, ◌/◌}
use Rattle.byte_pages.proofs.Reserving.{Reserved}
use Rattle.byte_pages.proofs.late_pages.LatePages.reserve.Given as goal

abbrev pub invariant-loop-page : goal.invariant-loop-page
invariant-loop-page l = record {
  bytes : l.self.bytes ≡ l.initial.self.bytes;
  there : Reserved l.initial.self.there l.self.there (l.at / 4096) l.page;
}
