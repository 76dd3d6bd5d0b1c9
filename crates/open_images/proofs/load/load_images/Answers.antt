-- The images that were taken are those of the guests before the loop's place.
use Rattle.open_images.proofs.Common.{subst, without_room, Unopened, FilesSeen, files_seen}
use Rattle.open_images.proofs.load.load_images.Goals as goal

pub returns-in-Err-load_image-clause-missed : goal.returns-in-Err-load_image-clause-missed
returns-in-Err-load_image-clause-missed g c = λ had.
    subst (λ (f : FilesSeen). Unopened f (files_seen g.F.Files c.load_image.new.files) had (without_room c.args.e.now) c.in-Err-load_image.fault)
    c.loop-guest.invariant.same (c.in-Err-load_image.ensures.missed c.args.p.now.slots.items had c.loop-guest.invariant.taken)
