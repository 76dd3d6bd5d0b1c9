use Rattle.std.proofs.Common.{rules, ◌≡◌, ℕ, ◌+◌, ◌-◌, ◌≤◌, length, take, drop, slice_range, refl, sym, ap, ◌∙◌, arith}
use Rattle.std.proofs.lemmas.List.{length-take-le, length-drop}
use Rattle.byte_pages.proofs.Places.{read_more}
use Rattle.byte_pages.proofs.late_pages.LatePages.read_into.Goals as goal

pub loop-done-init : goal.loop-done-init
loop-done-init c =
    let e : c.args.at + 0 - c.args.at ≡ 0 = omega arith in
    record {
      inside = omega arith;
      long = refl;
      short = omega (arith, c.sizes.ensures.short, c.requires);
      read = sym (ap (λ (k : ℕ). take k (drop c.args.at c.args.self.now.bytes)) e);
    }

pub loop-done-preserved : goal.loop-done-preserved
loop-done-preserved c =
    let d : ℕ = c.loop-done.done in
    let n : ℕ = c.piece_len-count.result in
    let e : d + n - d ≡ n = omega arith in
    let fits : d + n ≤ length c.loop-done.to = omega (arith, c.piece_len-count.ensures.left, c.loop-done.invariant.inside) in
    let rest = length-drop d c.loop-done.to in
    let part : length (slice_range c.loop-done.to d (d + n)) ≡ n = length-take-le (d + n - d) (drop d c.loop-done.to) (omega (arith, rest, fits)) ∙ e in
    record {
      inside = search rules;
      long = search rules;
      short = search rules;
      read = read_more c.args.self.now.bytes c.loop-done.to c.read_piece.new.to c.args.at d n (length (slice_range c.loop-done.to d (d + n)))
          fits (omega (arith, c.requires, fits, c.loop-done.invariant.long)) part c.loop-done.invariant.read c.read_piece.ensures;
    }
