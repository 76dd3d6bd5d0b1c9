use Rattle.elf_image.proofs.Writes.{put_both}
use Rattle.elf_image.proofs.place.put_at.Goals as goal

pub returns-clause-bytes : goal.returns-clause-bytes
returns-clause-bytes c =
    put_both c.args.bytes.now c.args.ram.now c.put.new.self c.put_zeros.new.ram c.args.segment.now c.if-segment-eq0.false c.requires.segment c.put.ensures.bytes c.put_zeros.ensures.bytes
