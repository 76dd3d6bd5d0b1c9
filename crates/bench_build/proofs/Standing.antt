-- Machines that are made one after another, and what of a list stands at a place.
use Rattle.std.proofs.Common.{◌≡◌, ℕ, zero, suc, ◌<◌, List, [], ◌∷◌, ◌++◌, map, length, All, get_or, Option, Some, None, refl, sym, ap, ◌∙◌, subst, arith}
use Rattle.std.specs.Prelude.{slice_get, Result, Ok, Err, IfOk, OnOk}
use Rattle.std.specs.Option.{option_map}
use Rattle.std.proofs.lemmas.Option.{slice_get-map, slice_get_read}
use Rattle.std.proofs.lemmas.List.{map_push, length_push}
use Rattle.dev_face.specs.States.{DevState}
use Rattle.exp_file.specs.declared.guest_spec.GuestSpec.{GuestSpec}
use Rattle.link_pipe.specs.declared.pipe_params.PipeParams.{PipeParams}
use Rattle.guest_machine.specs.Tick.{MachineState}
use Rattle.guest_machine.specs.Opening.{opening}
use Rattle.bench_build.specs.declared.loaded.Loaded.{Loaded}
use Rattle.bench_build.specs.Building.{AreLoaded}
use Rattle.bench_build.specs.Images.{image}
use Rattle.bench_build.specs.Openings.{openings}
use Rattle.bench_build.specs.Setups.{machine_of, opens}

pub some_is : {A : Type 0} {x y : A} → Some x ≡ Some y → x ≡ y
some_is e = cc

none_is_some : {A B : Type 0} {x : A} → None ≡ Some x → B
none_is_some e = cc

-- what follows from what an answer says where it is good
pub ok_then : {T E : Type 0} (r : Result T E) {P Q : T → Type 0} → IfOk r P → ((x : T) → P x → Q x) → IfOk r Q
ok_then (Ok x) p f = f x p
ok_then (Err e) p f = p

pub on_ok : {T E : Type 0} (r : Result T E) {P : Type 0} → P → OnOk r P
on_ok (Ok x) p = p
on_ok (Err e) p = tt

-- a list has something at each of its places
pub some_at : {A : Type 0} (xs : List A) (i : ℕ) → i < length xs → (x : A) × (slice_get xs i ≡ Some x)
some_at [] i lt = absurd (omega arith)
some_at (x ∷ xs) zero lt = (x, refl)
some_at (x ∷ xs) (suc i) lt = some_at xs i (omega (arith, lt))

-- two lists of one length, with one item more each
pub count_push : {A B : Type 0} (xs more : List A) (x : A) (ys : List B) (y : B) → more ≡ xs ++ x ∷ [] → length xs ≡ length ys → length more ≡ length (ys ++ y ∷ [])
count_push xs more x ys y pushed e = omega (arith, ap length pushed, length_push xs x, length_push ys y, e)

-- what a read finds stands at its place
pub read_at : {A : Type 0} (xs : List A) (i n : ℕ) (x : A) → i ≡ n → i < length xs → x ≡ get_or xs i x → slice_get xs n ≡ Some x
read_at xs i n x e lt is = sym (ap (slice_get xs) e) ∙ slice_get_read xs (length xs) i x refl lt is

read_is : {A : Type 0} (xs : List A) (i n : ℕ) (x y : A) → i ≡ n → i < length xs → x ≡ get_or xs i x → slice_get xs n ≡ Some y → x ≡ y
read_is xs i n x y e lt is at = some_is (sym (read_at xs i n x e lt is) ∙ at)

-- an image that is taken by what a read finds is taken of the guest that stands there
pub taken_is : (gs es : List GuestSpec) (i n : ℕ) (s g : GuestSpec) (b : List ℕ) (l : Loaded) → gs ≡ es → i ≡ n → i < length gs → s ≡ get_or gs i s → slice_get es n ≡ Some g
    → image s.format s.ram b ≡ Ok l → image g.format g.ram b ≡ Ok l
taken_is gs es i n s g b l same e lt is at taken =
    let here : s ≡ g = read_is gs i n s g e lt is (ap (λ (zs : List GuestSpec). slice_get zs n) same ∙ at) in
    ap (λ (k : GuestSpec). image k.format k.ram b) (sym here) ∙ taken

-- what holds of all holds of the one at a place
pub all_get : {A : Type 0} (P : A → Type 0) (xs : List A) (i : ℕ) (x : A) → All P xs → slice_get xs i ≡ Some x → P x
all_get P [] i x all at = none_is_some at
all_get P (y ∷ xs) zero x all at = subst P (some_is at) (all 0 y (omega arith))
all_get P (y ∷ xs) (suc i) x all at = all_get P xs i x (λ k d lt. all (suc k) d (omega (arith, lt))) at

-- one image more stands in its RAM
loaded_push : (gs : List GuestSpec) (images : List (List ℕ)) (ls : List Loaded) (b : List ℕ) (l : Loaded) (g : GuestSpec) → AreLoaded gs images ls →
    slice_get gs (length images) ≡ Some g → image g.format g.ram b ≡ Ok l → AreLoaded gs (images ++ b ∷ []) (ls ++ l ∷ [])
loaded_push [] [] ls b l g are at is = none_is_some at
loaded_push (h ∷ gs) [] [] b l g are at is = (subst (λ (k : GuestSpec). image k.format k.ram b ≡ Ok l) (sym (some_is at)) is, tt)
loaded_push (h ∷ gs) [] (m ∷ ls) b l g are at is = absurd are
loaded_push [] (c ∷ images) ls b l g are at is = none_is_some at
loaded_push (h ∷ gs) (c ∷ images) [] b l g are at is = absurd are
loaded_push (h ∷ gs) (c ∷ images) (m ∷ ls) b l g are at is = (are.0, loaded_push gs images ls b l g are.1 at is)

pub loaded_more : (gs : List GuestSpec) (images : List (List ℕ)) (ls more : List Loaded) (b : List ℕ) (l : Loaded) (g : GuestSpec) → more ≡ ls ++ l ∷ [] → AreLoaded gs images ls
    → slice_get gs (length images) ≡ Some g → image g.format g.ram b ≡ Ok l → AreLoaded gs (images ++ b ∷ []) more
loaded_more gs images ls more b l g pushed are at is = subst (λ (zs : List Loaded). AreLoaded gs (images ++ b ∷ []) zs) (sym pushed) (loaded_push gs images ls b l g are at is)

-- the machine of one guest more
openings_push : (devices : ℕ → List DevState) (pipes : ℕ → List (Option PipeParams)) (gs : List GuestSpec) (ls : List Loaded) (g : GuestSpec) (l : Loaded) → slice_get gs (length ls) ≡ Some g →
    openings devices pipes gs (ls ++ l ∷ []) ≡ openings devices pipes gs ls ++ opening g.rate l.entry l.ram (devices (length ls)) (pipes (length ls)) ∷ []
openings_push devices pipes [] [] g l at = none_is_some at
openings_push devices pipes (h ∷ gs) [] g l at = ap (λ (k : GuestSpec). opening k.rate l.entry l.ram (devices 0) (pipes 0) ∷ []) (some_is at)
openings_push devices pipes [] (m ∷ ls) g l at = none_is_some at
openings_push devices pipes (h ∷ gs) (m ∷ ls) g l at =
    ap (λ ms. opening h.rate m.entry m.ram (devices 0) (pipes 0) ∷ ms) (openings_push (λ n. devices (suc n)) (λ n. pipes (suc n)) gs ls g l at)

-- and so the machines of one guest more open as they should
pub states_push : {M : Type 0} (state : M → MachineState) (ms more : List M) (m : M) (devices : ℕ → List DevState) (pipes : ℕ → List (Option PipeParams)) (gs : List GuestSpec)
    (ls : List Loaded) (l : Loaded) (g : GuestSpec) (own : List DevState) (ends : List (Option PipeParams)) → more ≡ ms ++ m ∷ [] → map state ms ≡ openings devices pipes gs ls
    → state m ≡ opening g.rate l.entry l.ram own ends → slice_get gs (length ls) ≡ Some g → devices (length ls) ≡ own → pipes (length ls) ≡ ends
    → map state more ≡ openings devices pipes gs (ls ++ l ∷ [])
states_push state ms more m devices pipes gs ls l g own ends pushed made opens at is joined =
    let before = openings devices pipes gs ls in
    ap (map state) pushed
    ∙ map_push state ms m
    ∙ ap (λ (zs : List MachineState). zs ++ state m ∷ []) made
    ∙ ap (λ (z : MachineState). before ++ z ∷ []) opens
    ∙ ap (λ (zs : List DevState). before ++ opening g.rate l.entry l.ram zs ends ∷ []) (sym is)
    ∙ ap (λ (zs : List (Option PipeParams)). before ++ opening g.rate l.entry l.ram (devices (length ls)) zs ∷ []) (sym joined)
    ∙ sym (openings_push devices pipes gs ls g l at)

-- machines of the same devices and pipes
pub openings_same : (f h : ℕ → List DevState) (p q : ℕ → List (Option PipeParams)) (gs : List GuestSpec) (ls : List Loaded) → ((g : ℕ) → g < length gs → f g ≡ h g)
    → ((g : ℕ) → g < length gs → p g ≡ q g) → openings f p gs ls ≡ openings h q gs ls
openings_same f h p q [] [] each both = refl
openings_same f h p q (g ∷ gs) [] each both = refl
openings_same f h p q [] (l ∷ ls) each both = refl
openings_same f h p q (g ∷ gs) (l ∷ ls) each both =
    ap (λ ds. opening g.rate l.entry l.ram ds (p 0) ∷ openings (λ n. f (suc n)) (λ n. p (suc n)) gs ls) (each 0 (omega arith))
    ∙ ap (λ ps. opening g.rate l.entry l.ram (h 0) ps ∷ openings (λ n. f (suc n)) (λ n. p (suc n)) gs ls) (both 0 (omega arith))
    ∙ ap (λ ms. opening g.rate l.entry l.ram (h 0) (q 0) ∷ ms) (openings_same (λ n. f (suc n)) (λ n. h (suc n)) (λ n. p (suc n)) (λ n. q (suc n)) gs ls
    (λ k lt. each (suc k) (omega (arith, lt))) (λ k lt. both (suc k) (omega (arith, lt))))

opening_at : (devices : ℕ → List DevState) (pipes : ℕ → List (Option PipeParams)) (gs : List GuestSpec) (ls : List Loaded) (i : ℕ) (g : GuestSpec) (l : Loaded) → slice_get gs i ≡ Some g →
    slice_get ls i ≡ Some l → slice_get (openings devices pipes gs ls) i ≡ Some (opening g.rate l.entry l.ram (devices i) (pipes i))
opening_at devices pipes gs [] i g l at on = none_is_some on
opening_at devices pipes [] (m ∷ ls) i g l at on = none_is_some at
opening_at devices pipes (h ∷ gs) (m ∷ ls) zero g l at on =
    ap (λ (k : GuestSpec). Some (opening k.rate m.entry m.ram (devices 0) (pipes 0))) (some_is at)
    ∙ ap (λ (k : Loaded). Some (opening g.rate k.entry k.ram (devices 0) (pipes 0))) (some_is on)
opening_at devices pipes (h ∷ gs) (m ∷ ls) (suc i) g l at on = opening_at (λ n. devices (suc n)) (λ n. pipes (suc n)) gs ls i g l at on

-- a machine stands at its guest's place as it opens
pub state_at : {M : Type 0} (state : M → MachineState) (ms : List M) (m : M) (devices : ℕ → List DevState) (pipes : ℕ → List (Option PipeParams)) (gs : List GuestSpec) (ls : List Loaded)
    (i : ℕ) (g : GuestSpec) (l : Loaded) → map state ms ≡ openings devices pipes gs ls → slice_get ms i ≡ Some m → slice_get gs i ≡ Some g → slice_get ls i ≡ Some l →
    state m ≡ opening g.rate l.entry l.ram (devices i) (pipes i)
state_at {M} state ms m devices pipes gs ls i g l made in' at on =
    let here : slice_get (map state ms) i ≡ Some (state m) = slice_get-map state ms i ∙ ap (λ (o : Option M). option_map state o) in' in
    some_is (sym here ∙ ap (λ (zs : List MachineState). slice_get zs i) made ∙ opening_at devices pipes gs ls i g l at on)

-- and that is the opening machine of the guest with its image
pub opens_at : (devices : List DevState) (pipes : List (Option PipeParams)) (gs : List GuestSpec) (images : List (List ℕ)) (ls : List Loaded) (i : ℕ) (g : GuestSpec) (l : Loaded)
    → AreLoaded gs images ls → slice_get gs i ≡ Some g → slice_get ls i ≡ Some l
    → opening g.rate l.entry l.ram devices pipes ≡ machine_of (slice_get gs i) (slice_get images i) devices pipes
opens_at devices pipes gs images [] i g l are at on = none_is_some on
opens_at devices pipes gs [] (m ∷ ls) i g l are at on = absurd are
opens_at devices pipes [] (b ∷ images) (m ∷ ls) i g l are at on = none_is_some at
opens_at devices pipes (h ∷ gs) (b ∷ images) (m ∷ ls) zero g l are at on =
    ap (λ (k : GuestSpec). opening k.rate l.entry l.ram devices pipes) (sym (some_is at))
    ∙ ap (λ (k : Loaded). opening h.rate k.entry k.ram devices pipes) (sym (some_is on))
    ∙ ap (λ r. opens h.rate r devices pipes) (sym are.0)
opens_at devices pipes (h ∷ gs) (b ∷ images) (m ∷ ls) (suc i) g l are at on = opens_at devices pipes gs images ls i g l are.1 at on
