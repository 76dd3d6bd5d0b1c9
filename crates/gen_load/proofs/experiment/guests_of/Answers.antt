use Rattle.std.proofs.Common.{◌∙◌, ◌++◌, ◌∷◌, [], ap}
use Rattle.exp_file.specs.declared.guest_spec.GuestSpec.{GuestSpec}
use Rattle.gen_load.specs.Loads.{ring_guest}
use Rattle.gen_load.proofs.Rows.{map_grown}
use Rattle.gen_load.proofs.experiment.guests_of.Goals as goal

pub loop-number-preserved : goal.loop-number-preserved
loop-number-preserved c =
    map_grown ring_guest c.loop-number.number c.loop-number.list.items c.push.new.self.items c.loop-number.invariant
    (c.in_ok-push.ensures.ok ∙ ap (λ (g : GuestSpec). c.loop-number.list.items ++ g ∷ []) c.in_ok-guest.ensures)
