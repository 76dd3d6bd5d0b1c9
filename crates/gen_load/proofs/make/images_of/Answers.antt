use Rattle.std.proofs.Common.{◌∙◌, ◌++◌, ◌∷◌, [], ℕ, List, ap}
use Rattle.gen_load.specs.Images.{guest_image}
use Rattle.gen_load.proofs.Rows.{map_grown}
use Rattle.gen_load.proofs.make.images_of.Goals as goal

pub loop-number-preserved : goal.loop-number-preserved
loop-number-preserved c =
    map_grown (guest_image c.args.count) c.loop-number.number c.loop-number.list.items c.push.new.self.items c.loop-number.invariant
    (c.in_ok-push.ensures.ok ∙ ap (λ (i : List ℕ). c.loop-number.list.items ++ i ∷ []) c.in_ok-image.ensures)
