-- There are as many images as guests.
use Rattle.open_images.proofs.Common.{◌+◌, length, sym, ap, ◌∙◌, AllZip-long, IsTaken}
use Rattle.open_images.proofs.load_generated.load_generated.Goals as goal

pub loop-guest-init : goal.loop-guest-init
loop-guest-init c = record {
  building = c.in-Ok.ensures.building;
  images_added_is = c.in-Ok.ensures.images_added;
  images_wanted_is = c.in-Ok.ensures.images_wanted ∙ sym (AllZip-long IsTaken c.args.e.now.guests.items c.args.images.now c.requires.images.taken);
  disks_added_is = c.in-Ok.ensures.disks_added;
  disks_wanted_is = c.in-Ok.ensures.disks_wanted ∙ ap length c.requires.images.no_disks;
}

pub loop-guest-preserved : goal.loop-guest-preserved
loop-guest-preserved c =
    let inv = c.loop-guest.invariant in
    let ev = c.in-Ok-add_image.ensures in
    record {
      building = ev.building c.args.e.now c.args.p.now.slots.items inv.building;
      images_added_is = ev.images_added ∙ ap (λ n. n + 1) inv.images_added_is;
      images_wanted_is = ev.images_wanted ∙ inv.images_wanted_is;
      disks_added_is = ev.disks_added ∙ inv.disks_added_is;
      disks_wanted_is = ev.disks_wanted ∙ inv.disks_wanted_is;
    }
