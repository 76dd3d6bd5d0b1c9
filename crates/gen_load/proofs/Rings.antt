-- The experiment of a load is well formed.
use Rattle.std.proofs.Common.{◌≡◌, ◌∙◌, ℕ, zero, suc, ◌+◌, ◌<◌, ◌≤◌, ◌%◌, ◌==◌, nat_lt, nat_le, Bool, true, false, not, ◌&&◌, List, [], ◌∷◌, ◌++◌, All, map, length, Ok, Some, codes, refl, sym, ap, subst, add-one, arith}
use Rattle.std.specs.Fmt.{digits}
use Rattle.std.specs.List.{list_all, range_with_len}
use Rattle.std.proofs.lemmas.Bool.{and_parts, not-true, ltb-true, leb-true}
use Rattle.std.proofs.lemmas.List.FromFn.{map-range_with_len_more, length-map-range_with_len, get_or-map-range_with_len}
use Rattle.std.proofs.lemmas.Option.{slice_get-get_or}
use Rattle.exp_file.specs.declared.slot_spec.SlotSpec.{SlotSpec}
use Rattle.exp_file.specs.declared.guest_spec.GuestSpec.{GuestSpec}
use Rattle.exp_file.specs.declared.link_spec.LinkSpec.{LinkSpec}
use Rattle.exp_file.specs.declared.experiment.Experiment.{Experiment}
use Rattle.exp_file.specs.Kept.{AreGuests, AreLinks}
use Rattle.exp_file.specs.Links.{is_used, nics_if, nics_of}
use Rattle.exp_file.specs.Lists.{without_room}
use Rattle.exp_file.specs.Keys.{is_name_byte, is_not_zero}
use Rattle.exp_file.specs.Tables.{is_named}
use Rattle.exp_file.specs.WellFormed.{IsSlot, IsGuest, IsLink, IsFree, IsWellFormed}
use Rattle.exp_file.proofs.Kept.{kept_slots, no_guests, kept_guests, kept_links}
use Rattle.gen_load.proofs.Below.{all_below, at_each}
use Rattle.gen_load.specs.Loads.{guest_name, ring_guest, ring_link, ring_slot, ring_guests, ring_links, ring}

one_more : {X : Type 0} (f : ℕ → X) (n : ℕ) → map f (range_with_len 0 (suc n)) ≡ map f (range_with_len 0 n) ++ f n ∷ []
one_more {X} f n = ap (λ k. map f (range_with_len 0 k)) (sym (add-one n)) ∙ map-range_with_len_more f 0 n n (omega arith)

-- the names are right, and none comes twice
abbrev is_named_well : ℕ → Bool
is_named_well i = nat_le (length (guest_name i)) 32 && (list_all is_name_byte (guest_name i)
    && (nat_le (length (guest_name i ++ codes ".bin")) 255 && (list_all is_not_zero (guest_name i ++ codes ".bin")
    && not (is_named (guest_name i) (map ring_guest (range_with_len 0 i))))))

named_well : all_below is_named_well 32 ≡ true
unfolding digits
named_well = refl

record Named (i : ℕ) : Type 0 where
  short : length (guest_name i) ≤ 32
  bytes : list_all is_name_byte (guest_name i) ≡ true
  image_short : length (guest_name i ++ codes ".bin") ≤ 255
  image_bytes : list_all is_not_zero (guest_name i ++ codes ".bin") ≡ true
  new : is_named (guest_name i) (map ring_guest (range_with_len 0 i)) ≡ false

named : (i : ℕ) → i < 32 → Named i
named i low =
    let a = and_parts (nat_le (length (guest_name i)) 32) _ (at_each is_named_well 32 i named_well low) in
    let b = and_parts (list_all is_name_byte (guest_name i)) _ a.1 in
    let c = and_parts (nat_le (length (guest_name i ++ codes ".bin")) 255) _ b.1 in
    let d = and_parts (list_all is_not_zero (guest_name i ++ codes ".bin")) _ c.1 in
    record { short = leb-true _ _ a.0; bytes = b.0; image_short = leb-true _ _ c.0; image_bytes = d.0; new = not-true _ d.1 }

well_guest : (i : ℕ) → i < 32 → IsGuest 2 (ring_guest i)
well_guest i low =
    let n = named i low in
    record {
      name_low = omega arith;
      name_high = n.short;
      name_bytes = n.bytes;
      image_low = omega arith;
      image_high = n.image_short;
      image_bytes = n.image_bytes;
      ram_low = omega arith;
      ram_high = omega arith;
      ram_pages = refl;
      rate_low = omega arith;
      rate_high = omega arith;
      nics = omega arith;
      slot = tt;
    }

guests_are : (n : ℕ) → n ≤ 32 → AreGuests 2 (map ring_guest (range_with_len 0 n))
guests_are zero h = no_guests 2 (omega arith)
guests_are (suc n) h =
    subst (λ (gs : List GuestSpec). AreGuests 2 gs) (sym (one_more ring_guest n))
    (kept_guests 2 (map ring_guest (range_with_len 0 n)) (ring_guest n) (Ok (ring_guest n)) (guests_are n (omega (arith, h))) (well_guest n (omega (arith, h))) refl
    (named n (omega (arith, h))).new)

-- the ends of each link of a ring are nics that no link before it uses
abbrev is_free : ℕ → ℕ → Bool
is_free n i = nat_lt ((i + 1) % n) n && (not (is_used (map (ring_link n) (range_with_len 0 i)) i 1)
    && (not (is_used (map (ring_link n) (range_with_len 0 i)) ((i + 1) % n) 0) && not (i == (i + 1) % n && 1 == 0)))

rings_are_free : all_below (λ n. all_below (is_free n) n) 33 ≡ true
rings_are_free = refl

record Free (n i : ℕ) : Type 0 where
  next : (i + 1) % n < n
  unused : IsFree (map (ring_link n) (range_with_len 0 i)) (ring_link n i)

freed : (n i : ℕ) → n ≤ 32 → i < n → Free n i
freed n i few low =
    let each = at_each (λ m. all_below (is_free m) m) 33 n rings_are_free (omega (arith, few)) in
    let a = and_parts (nat_lt ((i + 1) % n) n) _ (at_each (is_free n) n i each low) in
    let b = and_parts (not (is_used (map (ring_link n) (range_with_len 0 i)) i 1)) _ a.1 in
    let c = and_parts (not (is_used (map (ring_link n) (range_with_len 0 i)) ((i + 1) % n) 0)) _ b.1 in
    record { next = ltb-true _ _ a.0; unused = record { a = not-true _ b.0; b = not-true _ c.0; apart = not-true _ c.1 } }

two_nics : (n i : ℕ) → i < n → nics_of (map ring_guest (range_with_len 0 n)) i ≡ 2
two_nics n i low =
    let count : length (map ring_guest (range_with_len 0 n)) ≡ n = length-map-range_with_len ring_guest 0 n in
    ap nics_if (slice_get-get_or (map ring_guest (range_with_len 0 n)) i (ring_guest 0) (omega (arith, count, low)) ∙ ap Some (get_or-map-range_with_len ring_guest 0 n i i (ring_guest 0) low (omega arith)))

well_link : (n i : ℕ) → n ≤ 32 → i < n → IsLink (map ring_guest (range_with_len 0 n)) (ring_link n i)
well_link n i few low =
    let count : length (map ring_guest (range_with_len 0 n)) ≡ n = length-map-range_with_len ring_guest 0 n in
    let next = (freed n i few low).next in
    record {
      a = omega (arith, count, low);
      a_nic = omega (arith, two_nics n i low);
      b = omega (arith, count, next);
      b_nic = omega (arith, two_nics n ((i + 1) % n) next);
      bandwidth_low = omega arith;
      bandwidth_high = omega arith;
      delay_low = omega arith;
      delay_high = omega arith;
      queue_low = omega arith;
      queue_high = omega arith;
    }

links_are : (n m : ℕ) → n ≤ 32 → m ≤ n → AreLinks (map ring_guest (range_with_len 0 n)) (map (ring_link n) (range_with_len 0 m))
links_are n zero few low =
    let count : length (map ring_guest (range_with_len 0 n)) ≡ n = length-map-range_with_len ring_guest 0 n in
    record { few = omega (arith, count, few); well = λ k d h. absurd (omega (arith, h)); one = λ g nic. omega arith }
links_are n (suc m) few low =
    subst (λ (ls : List LinkSpec). AreLinks (map ring_guest (range_with_len 0 n)) ls) (sym (one_more (ring_link n) m))
    (kept_links (map ring_guest (range_with_len 0 n)) (map (ring_link n) (range_with_len 0 m)) (Ok (ring_link n m)) (links_are n m few (omega (arith, low)))
    (well_link n m few (omega (arith, low))) (freed n m few (omega (arith, low))).unused)

well_slot : (n : ℕ) → 2 ≤ n → n ≤ 32 → IsSlot (ring_slot n)
well_slot n some few = record { capacity_low = omega (arith, some); capacity_high = omega (arith, few) }

two_slots : (s : SlotSpec) → IsSlot s → All IsSlot (s ∷ s ∷ [])
two_slots s well = kept_slots (s ∷ []) (Ok s) (kept_slots [] (Ok s) (λ k d h. absurd (omega (arith, h))) well) well

pub well_formed : (n : ℕ) → 2 ≤ n → n ≤ 32 → IsWellFormed (ring n)
unfolding ring_guests ring_links
well_formed n some few =
    let gs = guests_are n few in
    let ls = links_are n n few (omega arith) in
    let guest_count : length (map ring_guest (range_with_len 0 n)) ≡ n = length-map-range_with_len ring_guest 0 n in
    let link_count : length (map (ring_link n) (range_with_len 0 n)) ≡ n = length-map-range_with_len (ring_link n) 0 n in
    record {
      version = refl;
      factor_low = omega arith;
      factor_high = omega arith;
      slots_low = omega arith;
      slots_high = omega arith;
      guests_low = omega (arith, guest_count, some);
      guests_high = omega (arith, guest_count, few);
      disks_high = omega arith;
      links_high = omega (arith, link_count, few);
      slots = two_slots (ring_slot n) (well_slot n some few);
      guests = gs.well;
      disks = λ k d h. absurd (omega (arith, h));
      links = ls.well;
      names = gs.names;
      two_disks = λ g. omega arith;
      one_link = ls.one;
    }

-- the room of lists is none of its matter
in_room : (e : Experiment) → IsWellFormed (without_room e) → IsWellFormed e
in_room e w = record {
  version = w.version;
  factor_low = w.factor_low;
  factor_high = w.factor_high;
  slots_low = w.slots_low;
  slots_high = w.slots_high;
  guests_low = w.guests_low;
  guests_high = w.guests_high;
  disks_high = w.disks_high;
  links_high = w.links_high;
  slots = w.slots;
  guests = w.guests;
  disks = w.disks;
  links = w.links;
  names = w.names;
  two_disks = w.two_disks;
  one_link = w.one_link;
}

pub right_in_room : (n : ℕ) (e : Experiment) → 2 ≤ n → n ≤ 32 → without_room e ≡ ring n → IsWellFormed e
right_in_room n e some few same = in_room e (subst (λ (x : Experiment). IsWellFormed x) (sym same) (well_formed n some few))
