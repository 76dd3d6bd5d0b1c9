-- An experiment that a file says has 32 guests, 64 disks and 128 nics at most.
use Rattle.std.proofs.Common.{◌≡◌, ℕ, ℤ, pos, negsuc, ◌+◌, ◌-◌, ◌≤◌, nat_le, ◌&&◌, List, [], ◌∷◌, ◌++◌, map, length, All, Option, None, Some, Result, Ok, Err, Bool, true, false, refl, subst, arith, length-append, if◌then◌else◌}
use Rattle.std.specs.Prelude.{codes}
use Rattle.std.specs.List.{sum}
use Rattle.std.proofs.lemmas.Bool.Decides.{nat_tests}
use Rattle.std.proofs.lemmas.List.Elements.{All-nil, All-push}
use Rattle.std.proofs.lemmas.List.Sums.{sum-map, sum_by-le}
use Rattle.toml.specs.Data.{Data, Members, Items, no_items, item, get_member, as_array, as_integer}
use Rattle.exp_file.specs.declared.exp_fault.ExpFault.{ExpFault}
use Rattle.exp_file.specs.declared.exp_why.ExpWhy.{ExpWhy}
use Rattle.exp_file.specs.declared.exp_why.ExpWhy.TheVariants.{WrongKind, Range, NoSlot, NoGuest}
use Rattle.exp_file.specs.declared.experiment.Experiment.{Experiment}
use Rattle.exp_file.specs.declared.form.Form.TheVariants.{GuestName, ImageName}
use Rattle.exp_file.specs.declared.guest_spec.GuestSpec.{GuestSpec}
use Rattle.exp_file.specs.declared.section.Section.TheVariants.{Guest}
use Rattle.exp_file.specs.Arrays.{TopItems, arrays_of}
use Rattle.exp_file.specs.Keys.{◌>>=◌, Table, items_len, known, number, number_or, number_in, within, with_default, maybe_number, multiple, text, format, array, some_array, array_in, at_key, sized, some_of}
use Rattle.exp_file.specs.Tables.{each, slot_step, element, guest_of, guest_step, once}
use Rattle.exp_file.specs.Disks.{disk_step}
use Rattle.exp_file.specs.Links.{link_step}
use Rattle.exp_file.specs.Reading.{reading, of_document, document, lists_of, top_of}

-- what holds of all that came out right
Holds : {A : Type 0} → (A → Type 0) → Result A ExpFault → Type 0
Holds P (Ok x) = P x
Holds P (Err f) = Unit {0}

of_read : {A : Type 0} (P : A → Type 0) (r : Result A ExpFault) (x : A) → r ≡ Ok x → Holds P r → P x
unfolding Holds
of_read P r x read h = subst (λ z. Holds P z) read h

-- it holds after a step, where it holds of what follows the step
after : {A B : Type 0} (P : B → Type 0) (r : Result A ExpFault) (f : A → Result B ExpFault) → ((x : A) → r ≡ Ok x → Holds P (f x)) → Holds P (r >>= f)
unfolding Holds
after P (Ok x) f h = h x refl
after P (Err e) f h = tt

-- a step that is followed by another came out right, where both did
both : {A B : Type 0} (r : Result A ExpFault) (f : A → Result B ExpFault) (y : B) → (r >>= f) ≡ Ok y → (x : A) × (r ≡ Ok x) × (f x ≡ Ok y)
both (Ok x) f y h = (x, refl, h)
both {A} {B} (Err e) f y h = absurd (let no : (let r : Result B ExpFault = Err e in r) ≡ Ok y = h in cc)

-- as many items are read as there are
each_length : {A : Type 0} (step : List A → Data → Result A ExpFault) (done : List A) (ds : Items) (xs : List A) → each step done ds ≡ Ok xs → length xs ≡ length done + items_len ds
each_length {A} step done no_items xs h = let same : (let r : Result (List A) ExpFault = Ok done in r) ≡ Ok xs = h in grind arith
each_length step done (item d ds) xs h =
    let k = both (step done d) (λ x. each step (done ++ x ∷ []) ds) xs h in
    let rest = each_length step (done ++ k.0 ∷ []) ds xs k.2 in
    omega (arith, rest, length-append done (k.0 ∷ []))

-- what holds of each step holds of all that is read
each_all : {A : Type 0} (P : A → Type 0) (step : List A → Data → Result A ExpFault) → ((done : List A) (d : Data) → Holds P (step done d))
    → (done : List A) (ds : Items) (xs : List A) → All P done → each step done ds ≡ Ok xs → All P xs
each_all {A} P step good done no_items xs all h =
    let same : (let r : Result (List A) ExpFault = Ok done in r) ≡ Ok xs = h in
    let is : done ≡ xs = cc same in
    subst (All P) is all
each_all P step good done (item d ds) xs all h =
    let k = both (step done d) (λ x. each step (done ++ x ∷ []) ds) xs h in
    each_all P step good (done ++ k.0 ∷ []) ds xs (All-push P done k.0 all (of_read P (step done d) k.0 k.1 (good done d))) k.2

-- an array of so many items at most has no more
AreFew : ℕ → Items → Type 0
AreFew most ds = items_len ds ≤ most

sized_few : (most : ℕ) (o : Option Items) (ds : Items) → sized most o ≡ Ok ds → AreFew most ds
unfolding AreFew
sized_few most None ds h = absurd (let no : (let r : Result Items ExpWhy = Err WrongKind in r) ≡ Ok ds = h in cc)
sized_few most (Some es) ds h = grind arith

read_few : (most : ℕ) (o : Option Data) (ds : Items) → array_in most o ≡ Ok ds → AreFew most ds
unfolding AreFew
read_few most None ds h = let same : (let r : Result Items ExpWhy = Ok no_items in r) ≡ Ok ds = h in grind arith
read_few most (Some d) ds h = sized_few most (as_array d) ds h

at_few : (most : ℕ) (t : Table) (key : List ℕ) (r : Result Items ExpWhy) → ((ds : Items) → r ≡ Ok ds → AreFew most ds) → Holds (AreFew most) (at_key t key r)
unfolding Holds
at_few most t key (Err w) few = tt
at_few most t key (Ok ds) few = few ds refl

array_few : (t : Table) (key : List ℕ) (most : ℕ) → Holds (AreFew most) (array t key most)
unfolding array
array_few t key most = at_few most t key (array_in most (get_member key t.members)) (read_few most (get_member key t.members))

filled_few : (most : ℕ) (t : Table) (key : List ℕ) (why : ExpWhy) (ds : Items) → AreFew most ds → Holds (AreFew most) (some_of t key why ds)
unfolding Holds
filled_few most t key why no_items few = tt
filled_few most t key why (item d ds) few = few

some_few : (t : Table) (key : List ℕ) (most : ℕ) (why : ExpWhy) → Holds (AreFew most) (some_array t key most why)
unfolding some_array
some_few t key most why = after (AreFew most) (array t key most) (some_of t key why) (λ ds read. filled_few most t key why ds (of_read (AreFew most) (array t key most) ds read (array_few t key most)))

FewItems : TopItems → Type 0
FewItems a = AreFew 32 a.guests × AreFew 64 a.disks

few_arrays : (t : Table) → Holds FewItems (arrays_of t)
unfolding arrays_of Holds FewItems
few_arrays t =
    after FewItems (some_array t (codes "slot") 32 NoSlot) _ (λ slots _.
    after FewItems (some_array t (codes "guest") 32 NoGuest) _ (λ guests read_guests.
    after FewItems (array t (codes "disk") 64) _ (λ disks read_disks.
    after FewItems (array t (codes "link") 64) _ (λ links _.
    (of_read (AreFew 32) _ guests read_guests (some_few t (codes "guest") 32 NoGuest), of_read (AreFew 64) _ disks read_disks (array_few t (codes "disk") 64))))))

-- a number that is read up to a bound is no more
AtMost : ℕ → ℕ → Type 0
AtMost most n = n ≤ most

if_at_most : (most n : ℕ) (t : Table) (key : List ℕ) (b : Bool) → (b ≡ true → n ≤ most) → Holds (AtMost most) (at_key t key (with_default 0 (if b then Ok (Some n) else Err Range)))
unfolding Holds AtMost
if_at_most most n t key true h = h refl
if_at_most most n t key false h = tt

within_at_most : (most : ℕ) (t : Table) (key : List ℕ) (z : Option ℤ) → Holds (AtMost most) (at_key t key (with_default 0 (within 0 most z)))
unfolding Holds
within_at_most most t key None = tt
within_at_most most t key (Some (negsuc n)) = tt
within_at_most most t key (Some (pos n)) = if_at_most most n t key (nat_le 0 n && nat_le n most) (λ h. grind (arith, nat_tests))

read_at_most : (most : ℕ) (t : Table) (key : List ℕ) (o : Option Data) → Holds (AtMost most) (at_key t key (with_default 0 (number_in 0 most o)))
unfolding Holds AtMost
read_at_most most t key None = omega arith
read_at_most most t key (Some d) = within_at_most most t key (as_integer d)

number_at_most : (most : ℕ) (t : Table) (key : List ℕ) → Holds (AtMost most) (number_or t key 0 most 0)
unfolding number_or
number_at_most most t key = read_at_most most t key (get_member key t.members)

-- a guest has four nics at most
FewNics : GuestSpec → Type 0
FewNics g = AtMost 4 g.nics

few_guest : (slots : ℕ) (t : Table) → Holds FewNics (guest_of slots t)
unfolding guest_of Holds FewNics
few_guest slots t =
    after FewNics (known t) _ (λ _ _.
    after FewNics (text t (codes "name") GuestName) _ (λ name _.
    after FewNics (text t (codes "image") ImageName) _ (λ image _.
    after FewNics (format t) _ (λ kind _.
    after FewNics (number_or t (codes "ram") 4096 16777216 1048576) _ (λ ram _.
    after FewNics (multiple t (codes "ram") ram 4096) _ (λ _ _.
    after FewNics (number t (codes "rate") 1 100000) _ (λ rate _.
    after FewNics (number_or t (codes "nics") 0 4 0) _ (λ nics read.
    after FewNics (maybe_number t (codes "slot") 0 (slots - 1)) _ (λ slot _.
    of_read (AtMost 4) _ nics read (number_at_most 4 t (codes "nics")))))))))))

once_holds : {A : Type 0} (P : A → Type 0) (b : Bool) (x : A) (f : ExpFault) → P x → Holds P (if b then Err f else Ok x)
unfolding Holds
once_holds P true x f h = tt
once_holds P false x f h = h

few_step : (slots : ℕ) (done : List GuestSpec) (d : Data) → Holds FewNics (guest_step slots done d)
unfolding guest_step once
few_step slots done d =
    after FewNics (element Guest (length done) d) _ (λ t _.
    after FewNics (guest_of slots t) _ (λ g read.
    once_holds FewNics _ g _ (of_read FewNics (guest_of slots t) g read (few_guest slots t))))

record Few (e : Experiment) : Type 0 where
  guests : length e.guests.items ≤ 32
  disks : length e.disks.items ≤ 64
  nics : All FewNics e.guests.items

few_read : {A : Type 0} (step : List A → Data → Result A ExpFault) (ds : Items) (xs : List A) (most : ℕ) → each step [] ds ≡ Ok xs → AreFew most ds → length xs ≤ most
unfolding AreFew
few_read step ds xs most read few = omega (arith, each_length step [] ds xs read, few)

few_lists : (version factor : ℕ) (a : TopItems) → FewItems a → Holds Few (lists_of version factor a)
unfolding lists_of Holds FewItems
few_lists version factor a few =
    after Few (each slot_step [] a.slots) _ (λ slots _.
    after Few (each (guest_step (length slots)) [] a.guests) _ (λ guests read_guests.
    after Few (each (disk_step guests) [] a.disks) _ (λ disks read_disks.
    after Few (each (link_step guests) [] a.links) _ (λ links _.
    record {
      guests = few_read (guest_step (length slots)) a.guests guests 32 read_guests few.0;
      disks = few_read (disk_step guests) a.disks disks 64 read_disks few.1;
      nics = each_all FewNics (guest_step (length slots)) (few_step (length slots)) [] a.guests guests (All-nil FewNics) read_guests;
    }))))

few_top : (t : Table) → Holds Few (top_of t)
unfolding top_of
few_top t =
    after Few (known t) _ (λ _ _.
    after Few (number t (codes "version") 1 1) _ (λ version _.
    after Few (number t (codes "factor") 1 1000) _ (λ factor _.
    after Few (arrays_of t) _ (λ a read.
    few_lists version factor a (of_read FewItems (arrays_of t) a read (few_arrays t))))))

few_document : (o : Option Members) → Holds Few (of_document o)
unfolding Holds
few_document None = tt
few_document (Some ms) = few_top _

few_of : (b : List ℕ) (e : Experiment) → reading b ≡ Ok e → Few e
unfolding reading
few_of b e read = of_read Few (reading b) e read (few_document (document b))

pub guests_few : (b : List ℕ) (e : Experiment) → reading b ≡ Ok e → length e.guests.items ≤ 32
guests_few b e read = (few_of b e read).guests

pub disks_few : (b : List ℕ) (e : Experiment) → reading b ≡ Ok e → length e.disks.items ≤ 64
disks_few b e read = (few_of b e read).disks

pub nics_few : (b : List ℕ) (e : Experiment) → reading b ≡ Ok e → sum (map (λ g. g.nics) e.guests.items) ≤ 128
unfolding FewNics AtMost
nics_few b e read =
    let few = few_of b e read in
    omega (arith, few.guests, sum-map (λ (g : GuestSpec). g.nics) e.guests.items, sum_by-le (λ (g : GuestSpec). g.nics) 4 e.guests.items few.nics)
