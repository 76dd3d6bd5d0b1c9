-- The generated load of n guests in a ring: each sends frames to the next one.
use Rattle.std.specs.Prelude.{ℕ, ◌+◌, ◌*◌, ◌/◌, ◌%◌, List, [], ◌∷◌, ◌++◌, map, None, codes}
use Rattle.std.specs.Fmt.{decimal}
use Rattle.std.specs.List.{range_with_len}
use Rattle.exp_file.specs.declared.slot_spec.SlotSpec.{SlotSpec}
use Rattle.exp_file.specs.declared.guest_spec.GuestSpec.{GuestSpec}
use Rattle.exp_file.specs.declared.guest_spec.Format.TheVariants.{Flat}
use Rattle.exp_file.specs.declared.link_spec.LinkSpec.{LinkSpec}
use Rattle.exp_file.specs.declared.experiment.Experiment.{Experiment}
use Rattle.exp_file.specs.Lists.{listed}
use Rattle.gen_load.specs.Images.{guest_image}

abbrev pub guest_name : ℕ → List ℕ
guest_name i = codes "g" ++ decimal i

-- the image's name is for messages: the image is not read from a file
abbrev pub ring_guest : ℕ → GuestSpec
ring_guest i = record { name = guest_name i; image = guest_name i ++ codes ".bin"; format = Flat; ram = 65536; rate = 100; nics = 2; slot = None }

-- from nic 1 of guest i to nic 0 of the next one
abbrev pub ring_link : ℕ → ℕ → LinkSpec
ring_link n i = record { a = i; a_nic = 1; b = (i + 1) % n; b_nic = 0; bandwidth = 1000; delay = 5; queue = 8 }

-- a slot of which two give room for n guests, at a factor of 4
abbrev pub ring_slot : ℕ → SlotSpec
ring_slot n = record { capacity = 25 * ((n + 1) / 2) }

unfoldable pub ring_guests : ℕ → List GuestSpec
ring_guests n = map ring_guest (range_with_len 0 n)

unfoldable pub ring_links : ℕ → List LinkSpec
ring_links n = map (ring_link n) (range_with_len 0 n)

abbrev pub ring : ℕ → Experiment
ring n = record {
  version = 1;
  factor = 4;
  slots = listed (ring_slot n ∷ ring_slot n ∷ []);
  guests = listed (ring_guests n);
  disks = listed [];
  links = listed (ring_links n);
}

-- the images of the guests, in their order
unfoldable pub ring_images : ℕ → List (List ℕ)
ring_images n = map (guest_image n) (range_with_len 0 n)
