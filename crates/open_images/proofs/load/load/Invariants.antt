use Rattle.open_images.proofs.Common.{◌≡◌, length, take, images_wanted, images_added, disks_wanted, disks_added, files_seen, HasTaken}
use Rattle.open_images.proofs.load.load.Given as goal

abbrev pub invariant-loop-disk : goal.invariant-loop-disk
invariant-loop-disk g l = record {
  same : files_seen g.F.Files l.files ≡ files_seen g.F.Files l.fn.files;
  taken : HasTaken (files_seen g.F.Files l.files) l.e.guests.items (take l.disk l.e.disks.items) l.e l.p.slots.items l.builder;
  images_added_is : images_added l.builder ≡ length l.e.guests.items;
  images_wanted_is : images_wanted l.builder ≡ length l.e.guests.items;
  disks_added_is : disks_added l.builder ≡ l.disk;
  disks_wanted_is : disks_wanted l.builder ≡ length l.e.disks.items;
}
