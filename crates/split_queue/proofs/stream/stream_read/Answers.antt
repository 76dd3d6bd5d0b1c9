use Rattle.std.proofs.Common.{◌≡◌, ℕ, ◌+◌, ◌-◌, ◌<◌, ◌≤◌, min, List, ◌∷◌, length, take, drop, get_or, slice_range, ap, sym, ◌∙◌, subst, arith, add-one, drop-cons}
use Rattle.std.proofs.lemmas.List.{length-take-le, length-drop}
use Rattle.split_queue.specs.declared.range.Range.{Range}
use Rattle.split_queue.specs.Streams.{stream}
use Rattle.split_queue.proofs.ReadLemmas.{Reading, read_on, read_more, part_bytes}
use Rattle.split_queue.proofs.stream.stream_read.Goals as goal
use Rattle.split_queue.proofs.stream.stream_read.Goals.{then-len-skip, else-len-skip}

pub loop-range-preserved : goal.loop-range-preserved
loop-range-preserved c =
    let ram : List ℕ = c.args.ram.now in
    let i : ℕ = c.loop-range.range-index in
    let skip : ℕ = c.loop-range.skip in
    let done : ℕ = c.loop-range.done in
    let to : List ℕ = c.loop-range.to in
    let none : Range = record { addr = 0; len = 0 } in
    let r : Range = get_or c.args.ranges.now i none in
    let rs : List Range = drop (i + 1) c.args.ranges.now in
    let first : i < length c.args.ranges.now = c.loop-range-test.true in
    let split : drop i c.args.ranges.now ≡ r ∷ rs = rw (add-one, drop-cons c.args.ranges.now i none) in
    let v = c.loop-range.invariant in
    let whole : List ℕ = take (length to) (drop c.args.pos (stream ram c.args.ranges.now)) in
    let along : Reading ram (r ∷ rs) skip done to whole = subst (λ (xs : List Range). Reading ram xs skip done to whole) split (record { within = v.done; ranges = v.ranges; inside = v.inside; rest = v.rest }) in
    let same : whole ≡ take (length c.if-len-skip.to) (drop c.args.pos (stream ram c.args.ranges.now)) = ap (λ (n : ℕ). take n (drop c.args.pos (stream ram c.args.ranges.now))) (sym c.if-len-skip.auto.to) in
    elim c.if-len-skip.branch [
      | then-len-skip w ↦ (let past : r.len ≤ skip = omega (arith, c.from-len.ensures, w.if-len-skip.true) in
          let k : Reading ram rs c.if-len-skip.skip c.if-len-skip.done c.if-len-skip.to whole = rw (w.to-is, w.skip-is, w.done-is, c.from-len.ensures) (read_on ram r rs skip done to whole along past) in
          record { done = k.within; ranges = k.ranges; inside = k.inside; rest = k.rest ∙ same })
      | else-len-skip w ↦ (let n : ℕ = w.part_of-part.result in
          let within : skip < r.len = omega (arith, c.from-len.ensures, w.if-len-skip.false) in
          let least : n ≡ min (r.len - skip) (length to - done) = w.part_of-part.ensures ∙ ap (λ (k : ℕ). min (k - skip) (length to - done)) c.from-len.ensures in
          let z : done + n - done ≡ n = omega arith in
          let size : length (take (done + n - done) (drop done to)) ≡ n = length-take-le (done + n - done) (drop done to) (omega (arith, length-drop done to, least, along.within)) ∙ z in
          let p : ℕ = r.addr + skip - 0x80000000 in
          let bytes : w.take.new.to ≡ part_bytes ram r skip n = w.take.ensures ∙ ap (λ (k : ℕ). slice_range ram p (p + k)) size in
          let k : Reading ram rs c.if-len-skip.skip c.if-len-skip.done c.if-len-skip.to whole = rw (w.to-is, w.skip-is, w.done-is, z) (read_more ram r rs skip done n to w.take.new.to whole along within least bytes) in
          record { done = k.within; ranges = k.ranges; inside = k.inside; rest = k.rest ∙ same })
    ]
