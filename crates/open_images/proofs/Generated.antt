-- The images of a generated load are those of its guests.
use Rattle.open_images.proofs.Common.{◌≡◌, ℕ, List, [], ◌∷◌, ◌++◌, length, map, sym, ap, subst, arith, ◌-◌, nat_le, replicate, AllZip, range_with_len, without_room, Experiment, GuestSpec, IsTaken, AreImages}
use Rattle.std.proofs.lemmas.Bool.{cond-true, le-leb}
use Rattle.gen_load.specs.Images.{guest_image}
use Rattle.gen_load.specs.Loads.{ring, ring_guest, ring_guests, ring_images}

module _ (sizes : (n i : ℕ) → length (guest_image n i) ≡ 22528) where
  -- each fits the RAM of its guest
  fits : (n i : ℕ) → IsTaken (ring_guest i) (guest_image n i)
  fits n i =
      let b = guest_image n i in
      record {
        loaded = record { ram = b ++ replicate (65536 - length b) 0; entry = 0x80000000 };
        is = cond-true (nat_le (length b) 65536) _ _ (le-leb (length b) 65536 (omega (arith, sizes n i)));
      }

  each_fits : (n : ℕ) (is : List ℕ) → AllZip IsTaken (map ring_guest is) (map (guest_image n) is)
  each_fits n [] = tt
  each_fits n (i ∷ is) = (fits n i, each_fits n is)

  pub ring_images_are : (n : ℕ) (e : Experiment) → without_room e ≡ ring n → AreImages e (ring_images n)
  unfolding ring_guests ring_images
  ring_images_are n e same =
      let guests : ring_guests n ≡ e.guests.items = ap (λ (x : Experiment). x.guests.items) (sym same) in
      record {
        taken = subst (λ (gs : List GuestSpec). AllZip IsTaken gs (ring_images n)) guests (each_fits n (range_with_len 0 n));
        no_disks = ap (λ (x : Experiment). x.disks.items) same;
      }
