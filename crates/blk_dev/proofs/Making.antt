-- Which pages are there after requests completed one by one.
use Rattle.std.proofs.Common.{◌≡◌, ℕ, zero, suc, ◌*◌, ◌/◌, ◌<◌, ◌≤◌, ◌≢◌, ◌⊎◌, inl, inr, Bool, true, false, nat_le, List, [], ◌∷◌, length, refl, sym, ◌∙◌, ap, subst, arith}
use Rattle.std.specs.Prelude.{IfSome, All, Any, slice_index_or}
use Rattle.std.proofs.lemmas.List.{ext_get_or}
use Rattle.std.proofs.lemmas.List.Sums.{take_while-cons}
use Rattle.std.proofs.lemmas.Bool.{cond-true, cond-false}
use Rattle.std.proofs.lemmas.Bool.Decides.{nat_tests}
use Rattle.byte_pages.specs.Pages.{PageState, is_there, AreThere, IsTouched}
use Rattle.dev_face.specs.BlkStates.{FlightState}
use Rattle.dev_face.specs.BlkRequests.{data_len}
use Rattle.dev_face.specs.BlkCalls.{is_good, first_finish}
use Rattle.blk_dev.specs.Order.{is_due}
use Rattle.blk_dev.specs.MadePages.{WritesPage, MadeBy, due_in}

any_here : {X : Type 0} (P : X → Type 0) (x : X) (xs : List X) → P x → Any P (x ∷ xs)
any_here P x xs p = (0, x, omega arith, refl, p)

any_later : {X : Type 0} (P : X → Type 0) (x : X) (xs : List X) → Any P xs → Any P (x ∷ xs)
any_later P x xs (k, y, lt, e, p) = (suc k, y, omega (arith, lt), e, p)

any_cases : {X : Type 0} (P : X → Type 0) (x : X) (xs : List X) → Any P (x ∷ xs) → P x ⊎ Any P xs
any_cases P x xs (zero, y, lt, e, p) = inl (subst P (sym e) p)
any_cases P x xs (suc k, y, lt, e, p) = inr (k, y, omega (arith, lt), e, p)

-- no request completed
pub made_none : (sectors : ℕ) (p : PageState) → MadeBy sectors [] p p
made_none sectors p = record { stay = λ i h. h; written = λ i (k, f, lt, e, w). absurd (omega (arith, lt)); others = λ i h. inl h; count = refl }

-- one request completed, and then others
pub made_more : (sectors : ℕ) (f : FlightState) (fs : List FlightState) (old mid new : PageState) → MadeBy sectors (f ∷ []) old mid → MadeBy sectors fs mid new → MadeBy sectors (f ∷ fs) old new
made_more sectors f fs old mid new a b = record {
  stay = λ i h. b.stay i (a.stay i h);
  written = λ i h. elim (any_cases (WritesPage sectors i) f fs h) [
    | inl w ↦ b.stay i (a.written i (any_here (WritesPage sectors i) f [] w))
    | inr w ↦ b.written i w
  ];
  others = λ i h. elim (b.others i h) [
    | inl there ↦ elim (a.others i there) [
      | inl was ↦ inl was
      | inr one ↦ elim (any_cases (WritesPage sectors i) f [] one) [
        | inl w ↦ inr (any_here (WritesPage sectors i) f fs w)
        | inr (k, g, lt, e, w) ↦ absurd (omega (arith, lt))
      ]
    ]
    | inr w ↦ inr (any_later (WritesPage sectors i) f fs w)
  ];
  count = b.count ∙ a.count;
}

-- the page of a byte that has a byte of a range whose pages are there
page_of : (p : PageState) (at len i : ℕ) → AreThere p at len → IsTouched at len i → is_there p i ≡ true
page_of p at len i h (k, low, high, same) = ap (λ (n : ℕ). slice_index_or p.there n false) (sym same) ∙ h k low high

-- the pages that one request makes
pub made_one : (sectors len : ℕ) (good : Bool) (f : FlightState) (old new : PageState) → len ≡ data_len f.kind f.chain → good ≡ is_good sectors f →
    ((i : ℕ) → is_there old i ≡ true → is_there new i ≡ true) →
    (good ≡ true → f.kind ≡ 1 → AreThere new (512 * f.sector) len) →
    ((i : ℕ) → is_there new i ≡ true → (is_there old i ≡ true) ⊎ ((good ≡ true) × (f.kind ≡ 1) × IsTouched (512 * f.sector) len i)) →
    length new.there ≡ length old.there → MadeBy sectors (f ∷ []) old new
made_one sectors len good f old new size is stay there others count = record {
  stay = stay;
  written = λ i a. elim (any_cases (WritesPage sectors i) f [] a) [
    | inl w ↦ page_of new (512 * f.sector) len i (there (is ∙ w.good) w.kind) (subst (λ (n : ℕ). IsTouched (512 * f.sector) n i) (sym size) w.touched)
    | inr (k, g, lt, e, w) ↦ absurd (omega (arith, lt))
  ];
  others = λ i h. elim (others i h) [
    | inl was ↦ inl was
    | inr (g, kind, touched) ↦ inr (any_here (WritesPage sectors i) f [] (record { good = sym is ∙ g; kind = kind; touched = subst (λ (n : ℕ). IsTouched (512 * f.sector) n i) size touched }))
  ];
  count = count;
}

due_first : (now : ℕ) (fs fs' : List FlightState) (f : FlightState) → fs ≡ f ∷ fs' → f.finish ≤ now → due_in now fs ≡ f ∷ due_in now fs'
due_first now fs fs' f e h =
    let due : nat_le f.finish now ≡ true = grind (arith, nat_tests) in
    ap (due_in now) e ∙ (take_while-cons (is_due now) f fs' ∙ cond-true (is_due now f) (f ∷ due_in now fs') [] due)

none_due : (now : ℕ) (fs : List FlightState) → IfSome (first_finish fs) (λ due. now < due) → due_in now fs ≡ []
none_due now [] h = refl
none_due now (f ∷ fs) h =
    let not_due : nat_le f.finish now ≡ false = grind (arith, nat_tests) in
    take_while-cons (is_due now) f fs ∙ cond-false (is_due now f) (f ∷ due_in now fs) [] not_due

-- the pages that are made from here on are some of those that are made in all
abbrev pub MadeFrom : ℕ → ℕ → List FlightState → PageState → List FlightState → PageState → Type 0
MadeFrom now sectors fs0 old fs mid = (x : PageState) → MadeBy sectors (due_in now fs) mid x → MadeBy sectors (due_in now fs0) old x

-- the first request completed
pub made_on : (now sectors : ℕ) (fs0 : List FlightState) (old : PageState) (fs fs' : List FlightState) (f : FlightState) (mid next : PageState) → MadeFrom now sectors fs0 old fs mid → fs ≡ f ∷ fs' → f.finish ≤ now → MadeBy sectors (f ∷ []) mid next →
    MadeFrom now sectors fs0 old fs' next
made_on now sectors fs0 old fs fs' f mid next h e due one x rest =
    h x (subst (λ (ds : List FlightState). MadeBy sectors ds mid x) (sym (due_first now fs fs' f e due)) (made_more sectors f (due_in now fs') mid next x one rest))

-- no request that is left is due
pub made_all : (now sectors : ℕ) (fs0 : List FlightState) (old : PageState) (fs : List FlightState) (new : PageState) → MadeFrom now sectors fs0 old fs new → IfSome (first_finish fs) (λ due. now < due) → MadeBy sectors (due_in now fs0) old new
made_all now sectors fs0 old fs new h none =
    h new (subst (λ (ds : List FlightState). MadeBy sectors ds new new) (sym (none_due now fs none)) (made_none sectors new))

-- a page is named by its first byte
by_byte : (p : PageState) (j : ℕ) → slice_index_or p.there j false ≡ true → is_there p (4096 * j) ≡ true
by_byte p j h = ap (λ (n : ℕ). slice_index_or p.there n false) (let e : 4096 * j / 4096 ≡ j = omega arith in e) ∙ h

by_byte_back : (p : PageState) (j : ℕ) → is_there p (4096 * j) ≡ true → slice_index_or p.there j false ≡ true
by_byte_back p j h = ap (λ (n : ℕ). slice_index_or p.there n false) (let e : j ≡ 4096 * j / 4096 = omega arith in e) ∙ h

-- no write is among the requests
module _ (sectors : ℕ) (fs : List FlightState) (old new : PageState) (none : All (λ (f : FlightState). f.kind ≢ 1) fs) (made : MadeBy sectors fs old new) where
  no_write : (i : ℕ) → Any (WritesPage sectors i) fs → ⊥
  no_write i (k, f, lt, e, w) = none k f lt (ap (λ (g : FlightState). g.kind) e ∙ w.kind)

  same_page : (j : ℕ) (b c : Bool) → slice_index_or new.there j false ≡ b → slice_index_or old.there j false ≡ c → b ≡ c
  same_page j true true n o = refl
  same_page j false false n o = refl
  same_page j true false n o = elim (made.others (4096 * j) (by_byte new j n)) [
    | inl was ↦ sym (by_byte_back old j was) ∙ o
    | inr w ↦ absurd (no_write (4096 * j) w)
  ]
  same_page j false true n o = sym n ∙ by_byte_back new j (made.stay (4096 * j) (by_byte old j o))

  pub none_written : new.there ≡ old.there
  none_written = ext_get_or false new.there old.there made.count (λ j lt. same_page j (slice_index_or new.there j false) (slice_index_or old.there j false) refl refl)
