use Rattle.std.proofs.Common.{◌≡◌, ◌<◌, ◌-◌, ℕ, length, Ok}
use Rattle.elf_image.specs.Elf.{phnum, segments, segment_check}
use Rattle.elf_image.proofs.check.check_segments.Given as goal

abbrev pub invariant-loop-n : goal.invariant-loop-n
invariant-loop-n l = record {
  rest : segments l.bytes (length l.ram) l.n (phnum l.bytes - l.n) ≡ segments l.bytes (length l.ram) 0 (phnum l.bytes);
  good : (k : ℕ) → k < l.n → segment_check l.bytes (length l.ram) k ≡ Ok tt;
}
