use Rattle.std.proofs.Common.{◌≡◌, ◌++◌, take}
use Rattle.gen_load.specs.Images.{word_bytes}
use Rattle.gen_load.proofs.code.put_words.Given as goal

abbrev pub invariant-loop-word : goal.invariant-loop-word
invariant-loop-word l = l.out ≡ l.initial.out ++ word_bytes (take l.word-index l.words)
