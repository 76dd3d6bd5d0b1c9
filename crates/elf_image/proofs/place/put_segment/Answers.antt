use Rattle.std.proofs.Common.{ap, ◌∙◌, length}
use Rattle.elf_image.specs.Elf.{check_if, segment_check}
use Rattle.elf_image.proofs.Steps.{placeable}
use Rattle.elf_image.proofs.place.put_segment.Goals as goal

pub put_at-requires-clause-segment : goal.put_at-requires-clause-segment
unfolding segment_check
put_at-requires-clause-segment c =
    placeable c.args.bytes.now c.args.ram.now c.args.n c.in-Some.segment
    (ap (check_if c.args.bytes.now (length c.args.ram.now) c.args.n) c.in-Some.ensures ∙ c.requires.good)
