use Rattle.std.proofs.Common.{rules, ◌≡◌, ℕ, ◌+◌, ◌≤◌, List, length, take, slice_range, ap, ◌∙◌, arith}
use Rattle.std.proofs.lemmas.List.{length-take-le}
use Rattle.split_queue.specs.Streams.{stream}
use Rattle.blk_dev.proofs.Pieces.{write_more, length_stream}
use Rattle.blk_dev.proofs.complete.write_pieces.Goals as goal

pub pieces-preserved : goal.pieces-preserved
pieces-preserved c =
    let d : ℕ = c.pieces.done in
    let n : ℕ = c.min-count.result in
    let at : ℕ = 16 + d in
    let source : List ℕ = stream c.args.ram.now c.args.chain.now.readable in
    let left : d + n ≤ c.args.len = omega (arith, c.min-count.ensures, c.pieces.invariant.done) in
    let long : length (take n c.pieces.buffer) ≡ n = length-take-le n c.pieces.buffer (omega (arith, c.min-count.ensures)) in
    record {
      done = left;
      buffer = search rules;
      bytes =
          c.write_from.ensures.bytes
          ∙ write_more c.args.content.now.bytes c.pieces.content.bytes source c.read_at.new.to c.args.at d n
          (omega (arith, c.requires.room, left, length_stream c.args.ram.now c.args.chain.now.readable c.requires.ranges)) (omega (arith, c.requires.inside, left)) c.pieces.invariant.bytes
          (c.read_at.ensures ∙ ap (λ (k : ℕ). slice_range source at (at + k)) long);
      there = c.write_from.ensures.there ∙ c.pieces.invariant.there;
      size = c.write_from.ensures.length ∙ c.pieces.invariant.size;
    }
