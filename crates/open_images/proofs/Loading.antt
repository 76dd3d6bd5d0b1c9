-- One image or disk more of a run, or why there is none.
use Rattle.open_images.proofs.Common.{◌≡◌, ℕ, ◌+◌, ◌<◌, List, [], ◌∷◌, ◌++◌, length, get_or, take, Some, Err, refl, sym, ap, ◌∙◌, subst, slice_get, AllZip, all_zipped_more, Kind, without_room, DiskSpec, Experiment, GuestSpec, ImageAnswers, DiskAnswers, IsTaken, Fills, IsBuilding, with_image, with_disk, BuildFault, Image, DiskSize, NoMemory, Unopened, FilesSeen, IsRead, IsContent, IsLoaded, IsFilled, image_limit, HasTaken, build_fault}
use Rattle.std.proofs.lemmas.List.{take_more}
use Rattle.std.proofs.lemmas.Option.{slice_get_read}
use Rattle.bench_build.specs.declared.builder.Builder.{Builder}

-- x is the i-th of some things
pub record IsAt {A : Type 0} (things : List A) (i : ℕ) (x : A) : Type 0 where
  pub here : slice_get things i ≡ Some x
  pub more : take (i + 1) things ≡ take i things ++ x ∷ []

pub is_at : {A : Type 0} (things : List A) (i : ℕ) (x : A) (seen : List A) → seen ≡ things → i < length things → x ≡ get_or seen i x → IsAt things i x
is_at {A} things i x seen all lt at_i =
    let is : x ≡ get_or things i x = subst (λ (xs : List A). x ≡ get_or xs i x) all at_i in
    record { here = slice_get_read things (length things) i x refl lt is; more = take_more things i x lt ∙ ap (λ (z : A). take i things ++ z ∷ []) (sym is) }

-- it is taken too
taken_too : {A : Type 0} (Q : A → List ℕ → Type 0) (things : List A) (i : ℕ) (x : A) (taken : List (List ℕ)) (b : List ℕ) → IsAt things i x → AllZip Q (take i things) taken → Q x b
    → AllZip Q (take (i + 1) things) (taken ++ b ∷ [])
taken_too {A} Q things i x taken b is before q = subst (λ (xs : List A). AllZip Q xs (taken ++ b ∷ [])) (sym is.more) (all_zipped_more Q (take i things) taken x b before q)

-- g is the i-th guest, and the images before its own were taken
module _ (old new : FilesSeen) (e : Experiment) (slots : List ℕ) (first : Builder) (i : ℕ) (g : GuestSpec) (is : IsAt e.guests.items i g) (next : length first.loaded.items ≡ i)
    (k : HasTaken old (take i e.guests.items) [] e slots first) (b : List ℕ) (read : IsRead (old.held g.image) image_limit b) where
  image_place : length k.inputs.images ≡ i
  image_place = sym k.building.count ∙ next

  pub image_refused : (had : Kind → ℕ) (fault : BuildFault) → (slice_get e.guests.items (length k.inputs.images) ≡ Some g → ImageAnswers (length k.inputs.images) g b (Err fault))
      → Unopened old new had (without_room e) (build_fault fault)
  image_refused had (Image j fault) answer =
      let bad = rw image_place at answer in
      rw (bad is.here).0 (record { inputs = k.inputs; before = k.loaded; thing = g; at = is.here; why = record { bytes = b; read = read; holds = (bad is.here).1 } })
  image_refused had NoMemory answer = tt
  image_refused had fault answer = let bad = rw image_place at answer in absurd (bad is.here)

  pub image_taken : (last : Builder) → new ≡ old → (slice_get e.guests.items (length k.inputs.images) ≡ Some g → IsTaken g b)
      → IsBuilding e slots (with_image k.inputs b) last → HasTaken new (take (i + 1) e.guests.items) [] e slots last
  image_taken last same answer building =
      let fits = rw image_place at answer in
      let more = taken_too (IsLoaded old.held) e.guests.items i g k.inputs.images b is k.loaded.images (record { read = read; taken = fits is.here }) in
      rw same (record { inputs = with_image k.inputs b; loaded = record { images = more; contents = k.loaded.contents }; building = building })

-- d is the j-th disk, and all images and the disks before it were taken
module _ (old new : FilesSeen) (e : Experiment) (slots : List ℕ) (first : Builder) (j : ℕ) (d : DiskSpec) (is : IsAt e.disks.items j d) (next : length first.contents.items ≡ j)
    (k : HasTaken old e.guests.items (take j e.disks.items) e slots first) (b : List ℕ) (read : IsContent old.held d.image b) where
  disk_place : length k.inputs.disks ≡ j
  disk_place = ap length (sym k.building.contents) ∙ next

  pub disk_refused : (had : Kind → ℕ) (fault : BuildFault) → (slice_get e.disks.items (length k.inputs.disks) ≡ Some d → DiskAnswers (length k.inputs.disks) d b (Err fault))
      → Unopened old new had (without_room e) (build_fault fault)
  disk_refused had (DiskSize n len room) answer =
      let bad = rw disk_place at answer in
      let (at_j, len_is, room_is, over) = bad is.here in
      rw at_j (record { inputs = k.inputs; before = k.loaded; thing = d; at = is.here; why = record { bytes = b; read = read; len_is = len_is; room_is = room_is; over = over } })
  disk_refused had NoMemory answer = tt
  disk_refused had fault answer = let bad = rw disk_place at answer in absurd (bad is.here)

  pub disk_taken : (last : Builder) → new ≡ old → (slice_get e.disks.items (length k.inputs.disks) ≡ Some d → Fills d b)
      → IsBuilding e slots (with_disk k.inputs b) last → HasTaken new e.guests.items (take (j + 1) e.disks.items) e slots last
  disk_taken last same answer building =
      let fills = rw disk_place at answer in
      let more = taken_too (IsFilled old.held) e.disks.items j d k.inputs.disks b is k.loaded.contents (record { read = read; fills = fills is.here }) in
      rw same (record { inputs = with_disk k.inputs b; loaded = record { images = k.loaded.images; contents = more }; building = building })
