use Rattle.std.proofs.Common.{refl}
use Rattle.gen_load.specs.Images.{code}
use Rattle.gen_load.proofs.code.words.Goals as goal

pub returns : goal.returns
unfolding code
returns c =
    rw (
      c.encode.ensures.word,
      c.encode-2.ensures.word,
      c.encode-3.ensures.word,
      c.encode-4.ensures.word,
      c.encode-5.ensures.word,
      c.encode-6.ensures.word,
      c.encode-7.ensures.word,
      c.encode-8.ensures.word,
    ) refl
