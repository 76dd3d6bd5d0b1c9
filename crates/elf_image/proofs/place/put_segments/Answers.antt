use Rattle.std.proofs.Common.{arith, ◌∙◌}
use Rattle.elf_image.specs.Elf.{phnum, put_segments}
use Rattle.elf_image.proofs.Steps.{puts_go, puts_end}
use Rattle.elf_image.proofs.place.put_segments.Goals as goal

pub loop-n-preserved : goal.loop-n-preserved
loop-n-preserved c = record {
  rest = puts_go c.args.bytes.now c.loop-n.ram c.put_segment.new.ram (put_segments c.args.bytes.now c.args.ram.now 0 (phnum c.args.bytes.now)) c.loop-n.n (phnum c.args.bytes.now)
      (omega arith) c.put_segment.ensures.bytes c.loop-n.invariant.rest;
  size = c.put_segment.ensures.size ∙ c.loop-n.invariant.size;
}

pub returns-clause-bytes : goal.returns-clause-bytes
returns-clause-bytes c =
    puts_end c.args.bytes.now c.loop-n.ram (put_segments c.args.bytes.now c.args.ram.now 0 (phnum c.args.bytes.now)) c.loop-n.n (phnum c.args.bytes.now) (omega arith) c.loop-n.invariant.rest
