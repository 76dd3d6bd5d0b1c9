use Rattle.std.proofs.Common.{arith, sym, length}
use Rattle.elf_image.specs.Elf.{phnum, segments}
use Rattle.elf_image.proofs.Steps.{segments_go, segments_stop, segments_end, good_more}
use Rattle.elf_image.proofs.check.check_segments.Goals as goal

pub loop-n-preserved : goal.loop-n-preserved
loop-n-preserved c = record {
  rest = segments_go c.args.bytes.now (length c.args.ram.now) c.loop-n.n (phnum c.args.bytes.now) (segments c.args.bytes.now (length c.args.ram.now) 0 (phnum c.args.bytes.now))
      (omega arith) (sym c.in-Ok.ensures) c.loop-n.invariant.rest;
  good = good_more c.args.bytes.now (length c.args.ram.now) c.loop-n.n c.loop-n.invariant.good (sym c.in-Ok.ensures);
}

pub returns-in-Err-clause-segments : goal.returns-in-Err-clause-segments
returns-in-Err-clause-segments c =
    sym (segments_stop c.args.bytes.now (length c.args.ram.now) c.loop-n.n (phnum c.args.bytes.now) (segments c.args.bytes.now (length c.args.ram.now) 0 (phnum c.args.bytes.now)) c.in-Err.fault
    (omega arith) (sym c.in-Err.ensures) c.loop-n.invariant.rest)

pub returns-clause-segments : goal.returns-clause-segments
returns-clause-segments c =
    sym (segments_end c.args.bytes.now (length c.args.ram.now) c.loop-n.n (phnum c.args.bytes.now) (segments c.args.bytes.now (length c.args.ram.now) 0 (phnum c.args.bytes.now))
    (omega arith) c.loop-n.invariant.rest)
