use Rattle.open_images.proofs.Common.{◌≡◌, [], length, take, images_wanted, images_added, disks_wanted, disks_added, files_seen, HasTaken}
use Rattle.open_images.proofs.load.load_images.Given as goal

abbrev pub invariant-loop-guest : goal.invariant-loop-guest
invariant-loop-guest g l = record {
  same : files_seen g.F.Files l.files ≡ files_seen g.F.Files l.fn.files;
  taken : HasTaken (files_seen g.F.Files l.files) (take l.guest l.e.guests.items) [] l.e l.p.slots.items l.builder;
  images_added_is : images_added l.builder ≡ l.guest;
  images_wanted_is : images_wanted l.builder ≡ length l.e.guests.items;
  disks_added_is : disks_added l.builder ≡ 0;
  disks_wanted_is : disks_wanted l.builder ≡ length l.e.disks.items;
}
