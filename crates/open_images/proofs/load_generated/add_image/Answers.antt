-- The image is that of the next guest, so it is not refused.
use Rattle.open_images.proofs.Common.{◌≡◌, ℕ, ◌∙◌, List, length, take, Option, Some, None, Err, refl, sym, subst, slice_get, AllZip-right, Experiment, GuestSpec, ImageAnswers, IsTaken, BuildFault, Image, NoMemory, AreImages, images_alone, build_fault}
use Rattle.std.specs.Option.{MatchOption, IsSomeAnd}
use Rattle.open_images.specs.declared.open_fault.OpenFault.TheVariants.{Memory}
use Rattle.open_images.proofs.Loading.{IsAt, is_at}
use Rattle.open_images.proofs.load_generated.add_image.Goals as goal

some_is : {A : Type 0} (o : Option A) (P : A → Type 0) → IsSomeAnd o P → (x : A) × (o ≡ Some x) × P x
some_is None P h = absurd h
some_is (Some x) P h = (x, refl, h)

-- the i-th image is that of a guest, and taken
guest_of : (e : Experiment) (images : List (List ℕ)) (i : ℕ) (b : List ℕ) → AreImages e images → slice_get images i ≡ Some b → (g : GuestSpec) × (slice_get e.guests.items i ≡ Some g) × IsTaken g b
guest_of e images i b are here =
    some_is (slice_get e.guests.items i) (λ h. IsTaken h b)
    (subst (λ (o : Option (List ℕ)). MatchOption o (Unit {0}) (λ z. IsSomeAnd (slice_get e.guests.items i) (λ h. IsTaken h z))) here (AllZip-right IsTaken e.guests.items images are.taken i))

none_refused : (g : GuestSpec) (i : ℕ) (b : List ℕ) → IsTaken g b → (fault : BuildFault) → ImageAnswers i g b (Err fault) → build_fault fault ≡ Memory
none_refused g i b taken NoMemory answer = refl
none_refused g i b taken (Image j fault) answer =
    let right = taken.is in
    let bad = answer.1 in
    absurd (cc (right, bad))
none_refused g i b taken fault answer = absurd answer

pub returns-in-Ok-clause-building : goal.returns-in-Ok-clause-building
returns-in-Ok-clause-building c = λ e slots building.
    let images = c.args.images.now in
    let is : IsAt images c.args.guest c.as_slice.result.now = rw c.as_slice.ensures (is_at images c.args.guest c.index-images-guest.result images refl c.requires.guest c.index-images-guest.is) in
    rw is.more (c.in-Ok.ensures.building e slots (images_alone (take c.args.guest images)) building)

pub returns-in-Err-clause-memory : goal.returns-in-Err-clause-memory
returns-in-Err-clause-memory c = λ e slots are building.
    let images = c.args.images.now in
    let is : IsAt images c.args.guest c.as_slice.result.now = rw c.as_slice.ensures (is_at images c.args.guest c.index-images-guest.result images refl c.requires.guest c.index-images-guest.is) in
    let (g, here, taken) = guest_of e images c.args.guest c.as_slice.result.now are is.here in
    let place : length (take c.args.guest images) ≡ c.args.guest = sym building.count ∙ c.requires.next in
    rw c.build_fault.ensures
    (none_refused g (length (take c.args.guest images)) c.as_slice.result.now taken c.in-Err.fault
    (c.in-Err.ensures.answer e slots (images_alone (take c.args.guest images)) g building (rw place here)))
