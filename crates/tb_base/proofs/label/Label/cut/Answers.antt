use Rattle.std.proofs.Common.{◌≡◌, ℕ, ◌≤◌, List, ◌++◌, length, take, drop, min, arith, ap, ◌∙◌}
use Rattle.std.proofs.lemmas.List.{take_at, take_min, length-take-le}
use Rattle.tb_base.proofs.label.Label.cut.Goals as goal

front : (from bytes copied : List ℕ) (n : ℕ) → n ≡ min (length from) 32 → copied ≡ take n from → take n (copied ++ drop n bytes) ≡ take 32 from
front from bytes copied n e f =
    let short : n ≤ length from = omega arith in
    let len : length copied ≡ n = ap length f ∙ length-take-le n from short in
    let same : n ≡ min 32 (length from) = omega arith in
    take_at copied (drop n bytes) n len ∙ f ∙ ap (λ m. take m from) same ∙ take_min 32 from

pub returns : goal.returns
returns c = front c.args.bytes.now _ c.copy_from_slice.new.self c.min-len.result c.min-len.ensures c.copy_from_slice.ensures.after
