use Rattle.std.proofs.Common.{ℕ, ◌+◌, ◌≤◌, length, take, refl, sym, ap, ◌∙◌, arith}
use Rattle.std.proofs.lemmas.List.{length-take-le}
use Rattle.byte_pages.proofs.Writes.{with_none, length_with}
use Rattle.byte_pages.proofs.Places.{write_more}
use Rattle.byte_pages.proofs.late_pages.LatePages.write_from.Goals as goal

pub loop-done-init : goal.loop-done-init
loop-done-init c = record {
  inside = omega arith;
  long = refl;
  short = omega (arith, c.sizes.ensures.short, c.requires.inside);
  written = sym (with_none c.args.self.now.bytes c.args.at);
  there = refl;
}

pub loop-done-preserved : goal.loop-done-preserved
loop-done-preserved c =
    let d : ℕ = c.loop-done.done in
    let n : ℕ = c.piece_len-count.result in
    let fits : d + n ≤ length c.args.from.now = omega (arith, c.piece_len-count.ensures.left, c.loop-done.invariant.inside) in
    let part = length-take-le (d + n) c.args.from.now fits in
    let written = write_more c.args.self.now.bytes c.loop-done.self.bytes c.write_piece.new.self.bytes c.args.from.now c.args.at d n fits c.requires.inside
    c.loop-done.invariant.written c.write_piece.ensures.bytes in
    record {
      inside = fits;
      long = ap (length {A = ℕ}) written ∙ length_with c.args.self.now.bytes c.args.at (take (d + n) c.args.from.now) (omega (arith, part, c.requires.inside, fits));
      short = c.loop-done.invariant.short;
      written = written;
      there = c.write_piece.ensures.there ∙ c.loop-done.invariant.there;
    }
