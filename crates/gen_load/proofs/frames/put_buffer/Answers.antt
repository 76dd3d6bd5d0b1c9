use Rattle.std.proofs.Common.{◌≡◌, ◌∙◌, ◌++◌, ℕ, List, [], ◌∷◌, replicate, refl, ap}
use Rattle.gen_load.specs.Images.{buffer}
use Rattle.gen_load.proofs.Rows.{three_on}
use Rattle.gen_load.proofs.frames.put_buffer.Goals as goal

parts : (to from mark : ℕ)
    → (replicate 12 0 ++ (2 ∷ 0 ∷ 0 ∷ 0 ∷ to ∷ 0 ∷ 2 ∷ 0 ∷ 0 ∷ 0 ∷ from ∷ 1 ∷ 0x88 ∷ 0xb5 ∷ mark ∷ [])) ++ replicate 101 0 ≡ buffer to from mark
unfolding buffer
parts to from mark = refl

pub returns : goal.returns
returns c =
    three_on _ _ _ _ _ _ _ _ _ _ c.in_ok-push_slice.ensures.ok c.in_ok-push_slice-2.ensures.ok c.in_ok-push_slice-3.ensures.ok refl refl refl
    ∙ ap (λ (t : List ℕ). c.args.out.now ++ t) (parts c.args.to c.args.from c.args.mark)
