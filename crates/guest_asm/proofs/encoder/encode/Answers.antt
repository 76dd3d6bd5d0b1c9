use Rattle.guest_asm.proofs.Encoded.{encoded}
use Rattle.guest_asm.proofs.encoder.encode.Goals as goal

pub returns-clause-decoded : goal.returns-clause-decoded
returns-clause-decoded c = rw c.lay_out.ensures.word (encoded c.args.op.now c.requires c.lay_out.ensures.signed)
