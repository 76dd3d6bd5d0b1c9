use Rattle.open_images.proofs.Generated.{ring_images_are}
use Rattle.open_images.proofs.law.loads_are_taken.Goals as goal

pub returns : goal.returns
returns c = record { taken = ring_images_are c.loads_are_right.ensures.sizes }
