use Rattle.open_images.proofs.Common.{◌≡◌, take, length, IsBuilding, images_wanted, images_added, disks_wanted, disks_added, images_alone}
use Rattle.open_images.proofs.load_generated.load_generated.Given as goal

abbrev pub invariant-loop-guest : goal.invariant-loop-guest
invariant-loop-guest l = record {
  building : IsBuilding l.e l.p.slots.items (images_alone (take l.guest l.images)) l.builder;
  images_added_is : images_added l.builder ≡ l.guest;
  images_wanted_is : images_wanted l.builder ≡ length l.images;
  disks_added_is : disks_added l.builder ≡ 0;
  disks_wanted_is : disks_wanted l.builder ≡ 0;
}
