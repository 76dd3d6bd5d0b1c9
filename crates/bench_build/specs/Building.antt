-- What a builder has taken.
use Rattle.std.specs.Prelude.{◌≡◌, ℕ, List, [], ◌∷◌, length, Ok}
use Rattle.exp_file.specs.declared.experiment.Experiment.{Experiment}
use Rattle.exp_file.specs.declared.guest_spec.GuestSpec.{GuestSpec}
use Rattle.bench_build.specs.Images.{image}
use Rattle.bench_build.specs.Inputs.{Inputs}
use Rattle.bench_build.specs.declared.builder.Builder.{Builder}
use Rattle.bench_build.specs.declared.loaded.Loaded.{Loaded}

-- how many images a builder wants, and how many it has
abbrev pub images_wanted : Builder → ℕ
images_wanted b = length b.experiment.now.guests.items

abbrev pub images_added : Builder → ℕ
images_added b = length b.loaded.items

-- and the same of what disks hold
abbrev pub disks_wanted : Builder → ℕ
disks_wanted b = length b.experiment.now.disks.items

abbrev pub disks_added : Builder → ℕ
disks_added b = length b.contents.items

-- these are the images of the first guests, in their RAM
abbrev pub AreLoaded : List GuestSpec → List (List ℕ) → List Loaded → Type 0
AreLoaded gs [] [] = Unit {0}
AreLoaded gs [] (l ∷ ls) = ⊥
AreLoaded gs (b ∷ images) [] = ⊥
AreLoaded [] (b ∷ images) (l ∷ ls) = ⊥
AreLoaded (g ∷ gs) (b ∷ images) (l ∷ ls) = (image g.format g.ram b ≡ Ok l) × AreLoaded gs images ls

-- the builder is of this experiment and this placement, and has taken these inputs
pub record IsBuilding (e : Experiment) (slots : List ℕ) (i : Inputs) (b : Builder) : Type 0 where
  pub experiment : b.experiment.now ≡ e
  pub placement : b.placement.now.slots.items ≡ slots
  pub loaded : AreLoaded e.guests.items i.images b.loaded.items
  pub count : length b.loaded.items ≡ length i.images
  pub contents : b.contents.items ≡ i.disks
