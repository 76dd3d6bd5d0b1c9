use Rattle.std.proofs.Common.{◌∙◌, ◌++◌, List, ℕ, ap, arith}
use Rattle.std.specs.Int.{w32, to_le_bytes}
use Rattle.gen_load.proofs.Rows.{items_grown}
use Rattle.gen_load.proofs.code.put_words.Goals as goal

pub loop-word-preserved : goal.loop-word-preserved
loop-word-preserved c =
    items_grown (to_le_bytes w32) c.args.words.now c.loop-word.word-index 0 c.args.out.now c.loop-word.out c.push_slice.new.self (omega arith) c.loop-word.invariant
    (c.in_ok-push_slice.ensures.ok ∙ ap (λ (t : List ℕ). c.loop-word.out ++ t) c.to_le_bytes.ensures)
