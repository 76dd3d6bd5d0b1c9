use Rattle.std.proofs.Common.{◌∙◌, ◌++◌, ◌∷◌, [], ap}
use Rattle.exp_file.specs.declared.link_spec.LinkSpec.{LinkSpec}
use Rattle.gen_load.specs.Loads.{ring_link}
use Rattle.gen_load.proofs.Rows.{map_grown}
use Rattle.gen_load.proofs.experiment.links_of.Goals as goal

pub loop-number-preserved : goal.loop-number-preserved
loop-number-preserved c =
    map_grown (ring_link c.args.count) c.loop-number.number c.loop-number.list.items c.push.new.self.items c.loop-number.invariant
    (c.in_ok-push.ensures.ok ∙ ap (λ (l : LinkSpec). c.loop-number.list.items ++ l ∷ []) c.link_of.ensures)
