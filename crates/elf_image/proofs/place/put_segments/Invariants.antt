use Rattle.std.proofs.Common.{◌≡◌, ◌-◌, length}
use Rattle.elf_image.specs.Elf.{phnum, put_segments}
use Rattle.elf_image.proofs.place.put_segments.Given as goal

abbrev pub invariant-loop-n : goal.invariant-loop-n
invariant-loop-n l = record {
  rest : put_segments l.bytes l.ram l.n (phnum l.bytes - l.n) ≡ put_segments l.bytes l.fn.ram 0 (phnum l.bytes);
  size : length l.ram ≡ length l.fn.ram;
}
