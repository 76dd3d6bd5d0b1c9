-- The images that came are built, or there are too few devices.
use Rattle.open_images.proofs.Common.{◌≡◌, ℕ, List, refl, Kind, without_room, Experiment, IsUnbuilt, counts, items_of, BuildFault, NoDevice, NoMemory, Unbuilt, images_alone, build_fault}
use Rattle.open_images.proofs.open.open_load.Goals as goal

short : (had : Kind → ℕ) (e : Experiment) (images : List (List ℕ)) (fault : BuildFault) → IsUnbuilt e had fault → Unbuilt (λ i. i ≡ images_alone images) had (without_room e) (build_fault fault)
short had e images (NoDevice k wanted n) h = record { inputs = images_alone images; loaded = refl; holds = record { wanted = h.wanted; had_is = h.had_is; short = h.short; before = h.before } }
short had e images NoMemory h = tt
short had e images _ h = absurd h

pub returns-in-Ok-finish-clause-opened : goal.returns-in-Ok-finish-clause-opened
returns-in-Ok-finish-clause-opened g c =
    let building = c.in-Ok.ensures.building in
    record {
      inputs = images_alone c.args.images.now;
      loaded = refl;
      enough = record { of = (c.in-Ok-finish.ensures.stock _ _ _ building).of };
      holds = λ n. let s = c.in-Ok-finish.ensures.stands _ _ _ n building in (s.0, s.1, c.in-Ok-finish.ensures.host_setup _ _ _ n building);
    }

pub returns-in-Err-finish-clause-unopened : goal.returns-in-Err-finish-clause-unopened
returns-in-Err-finish-clause-unopened g c =
    rw c.build_fault.ensures
    (short (counts (items_of c.args.stock)) c.args.e.now c.args.images.now c.in-Err-finish.fault (c.in-Err-finish.ensures.fault _ _ _ c.in-Ok.ensures.building))
