use Rattle.std.proofs.Common.{arith, ◌∙◌, ◌+◌, refl}
use Rattle.std.proofs.lemmas.List.{take-replicate}
use Rattle.elf_image.proofs.Writes.{more_zeros}
use Rattle.elf_image.proofs.place.put_zeros.Goals as goal

pub loop-done-preserved : goal.loop-done-preserved
loop-done-preserved c = record {
  within = omega arith;
  bytes = more_zeros c.args.ram.now c.loop-done.ram c.put.new.self _ c.args.addr (c.args.addr + c.loop-done.done) c.args.count c.loop-done.done c.min-more.result c.requires.within (omega arith) refl
      (take-replicate c.min-more.result 4096 0 (omega arith)) c.loop-done.invariant.bytes c.put.ensures.bytes;
  size = c.put.ensures.size ∙ c.loop-done.invariant.size;
}
