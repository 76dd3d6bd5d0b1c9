use Rattle.std.proofs.Common.{rules, ◌≡◌, ℕ, ◌+◌, ◌≤◌, length, take, slice_range, ap, ◌∙◌, arith}
use Rattle.std.proofs.lemmas.List.{length-take-le}
use Rattle.blk_dev.proofs.Pieces.{read_more}
use Rattle.blk_dev.proofs.complete.read_pieces.Goals as goal

pub pieces-preserved : goal.pieces-preserved
pieces-preserved c =
    let d : ℕ = c.pieces.done in
    let n : ℕ = c.min-count.result in
    let at : ℕ = c.args.at + d in
    let left : d + n ≤ c.args.len = omega (arith, c.min-count.ensures, c.pieces.invariant.done) in
    let long : length (take n c.pieces.buffer) ≡ n = length-take-le n c.pieces.buffer (omega (arith, c.min-count.ensures)) in
    record {
      done = left;
      buffer = search rules;
      ram =
          c.write_at.ensures.bytes
          ∙ read_more c.args.ram.now c.pieces.ram c.args.chain.now.writable c.args.content.now.bytes c.read_into.new.to c.args.at d n (omega (arith, c.requires.inside, left)) c.pieces.invariant.ram
          (c.read_into.ensures ∙ ap (λ (k : ℕ). slice_range c.args.content.now.bytes at (at + k)) long);
      size = c.write_at.ensures.size ∙ c.pieces.invariant.size;
    }
