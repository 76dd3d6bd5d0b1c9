use Rattle.gen_load.proofs.Fitting.{fits}
use Rattle.gen_load.proofs.Rings.{well_formed}
use Rattle.gen_load.proofs.Sizes.{image_length}
use Rattle.gen_load.proofs.law.loads_are_right.Goals as goal

pub returns : goal.returns
returns c = record { well_formed = well_formed; fits = fits; sizes = image_length }
