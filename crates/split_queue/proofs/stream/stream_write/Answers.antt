use Rattle.std.proofs.Common.{◌≡◌, ℕ, ◌+◌, ◌-◌, ◌<◌, ◌≤◌, min, List, ◌∷◌, length, take, drop, get_or, ap, sym, ◌∙◌, subst, arith, add-one, drop-cons}
use Rattle.std.proofs.lemmas.List.{length-drop, drop-drop}
use Rattle.guest_ram.specs.Bytes.{ram_after}
use Rattle.split_queue.specs.declared.range.Range.{Range}
use Rattle.split_queue.specs.Streams.{written}
use Rattle.split_queue.proofs.WriteLemmas.{Writing, write_on, write_more}
use Rattle.split_queue.proofs.stream.stream_write.Goals as goal
use Rattle.split_queue.proofs.stream.stream_write.Goals.{then-len-skip, else-len-skip}

pub loop-range-preserved : goal.loop-range-preserved
loop-range-preserved c =
    let ram : List ℕ = c.loop-range.ram in
    let i : ℕ = c.loop-range.range-index in
    let skip : ℕ = c.loop-range.skip in
    let done : ℕ = c.loop-range.done in
    let from : List ℕ = c.args.from.now in
    let none : Range = record { addr = 0; len = 0 } in
    let r : Range = get_or c.args.ranges.now i none in
    let rs : List Range = drop (i + 1) c.args.ranges.now in
    let first : i < length c.args.ranges.now = c.loop-range-test.true in
    let split : drop i c.args.ranges.now ≡ r ∷ rs = rw (add-one, drop-cons c.args.ranges.now i none) in
    let v = c.loop-range.invariant in
    let left : length (drop done from) ≡ length from - done = length-drop done from in
    let whole : List ℕ = written c.args.ram.now c.args.ranges.now c.args.pos from in
    let along : Writing ram (r ∷ rs) skip (drop done from) whole = subst (λ (xs : List Range). Writing ram xs skip (drop done from) whole) split (record { ranges = v.ranges; inside = omega (arith, v.inside, left); rest = v.rest }) in
    elim c.if-len-skip.branch [
      | then-len-skip w ↦ (let past : r.len ≤ skip = omega (arith, c.from-len.ensures, w.if-len-skip.true) in
          let k : Writing c.if-len-skip.ram rs c.if-len-skip.skip (drop c.if-len-skip.done from) whole = rw (w.ram-is, w.skip-is, w.done-is, c.from-len.ensures) (write_on ram r rs skip (drop done from) whole along past) in
          record { done = omega (arith, w.done-is, v.done); size = ap length w.ram-is ∙ v.size; ranges = k.ranges; inside = omega (arith, k.inside, length-drop c.if-len-skip.done from); rest = k.rest })
      | else-len-skip w ↦ (let n : ℕ = w.part_of-part.result in
          let within : skip < r.len = omega (arith, c.from-len.ensures, w.if-len-skip.false) in
          let least : n ≡ min (r.len - skip) (length (drop done from)) = w.part_of-part.ensures ∙ (ap (λ (k : ℕ). min (k - skip) (length from - done)) c.from-len.ensures ∙ ap (min (r.len - skip)) (sym left)) in
          let z : done + n - done ≡ n = omega arith in
          let bytes : c.if-len-skip.ram ≡ ram_after ram (r.addr + skip) (take n (drop done from)) = w.ram-is ∙ (w.put.ensures.bytes ∙ ap (λ (k : ℕ). ram_after ram (r.addr + skip) (take k (drop done from))) z) in
          let more : drop c.if-len-skip.done from ≡ drop n (drop done from) = ap (λ (k : ℕ). drop k from) w.done-is ∙ sym (drop-drop n done from) in
          let k : Writing c.if-len-skip.ram rs c.if-len-skip.skip (drop c.if-len-skip.done from) whole = rw (bytes, w.skip-is, more) (write_more ram r rs skip n (drop done from) whole along within least) in
          record { done = omega (arith, w.done-is, v.done, least, left); size = ap length w.ram-is ∙ (w.put.ensures.size ∙ v.size); ranges = k.ranges; inside = omega (arith, k.inside, length-drop c.if-len-skip.done from); rest = k.rest })
    ]
