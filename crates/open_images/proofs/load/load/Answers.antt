-- The disks that were taken are those before the loop's place.
use Rattle.open_images.proofs.Common.{subst, without_room, Unopened, FilesSeen, files_seen}
use Rattle.open_images.proofs.load.load.Goals as goal

pub returns-in-Err-load_disk-clause-missed : goal.returns-in-Err-load_disk-clause-missed
returns-in-Err-load_disk-clause-missed g c = λ had.
    subst (λ (f : FilesSeen). Unopened f (files_seen g.F.Files c.load_disk.new.files) had (without_room c.args.e.now) c.in-Err-load_disk.fault)
    c.loop-disk.invariant.same (c.in-Err-load_disk.ensures.missed c.args.p.now.slots.items had c.loop-disk.invariant.taken)
