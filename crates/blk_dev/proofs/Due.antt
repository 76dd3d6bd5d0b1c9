-- The requests that are due complete, and the others stay.
use Rattle.std.proofs.Common.{◌≡◌, ℕ, ◌<◌, Bool, true, false, nat_le, List, [], ◌∷◌, map, refl, sym, ◌∙◌, ap, arith}
use Rattle.std.specs.Prelude.{nat_lt, All, AllPairs, filter, fold}
use Rattle.std.proofs.lemmas.Bool.{cond-true, cond-false}
use Rattle.std.proofs.lemmas.Bool.Decides.{nat_tests}
use Rattle.std.proofs.lemmas.List.Elements.{All-cons, All-head, All-tail, All-weaker}
use Rattle.trace_rec.specs.declared.rec.Rec.{Rec}
use Rattle.dev_face.specs.BlkStates.{FlightState}
use Rattle.dev_face.specs.BlkCalls.{Work, Served, served, completed, done_rec, with_rec}
use Rattle.blk_dev.specs.Order.{is_due, is_later}
use Rattle.blk_dev.proofs.Ordered.{NotBefore, pairs_head, pairs_tail}

filter_all : {X : Type 0} (p : X → Bool) (xs : List X) → All (λ (x : X). p x ≡ true) xs → filter p xs ≡ xs
filter_all p [] h = refl
filter_all p (x ∷ xs) h = cond-true (p x) _ _ (All-head (λ y. p y ≡ true) x xs h) ∙ ap (λ ys. x ∷ ys) (filter_all p xs (All-tail (λ y. p y ≡ true) x xs h))

filter_none : {X : Type 0} (p : X → Bool) (xs : List X) → All (λ (x : X). p x ≡ false) xs → filter p xs ≡ []
filter_none p [] h = refl
filter_none p (x ∷ xs) h = cond-false (p x) _ _ (All-head (λ y. p y ≡ false) x xs h) ∙ filter_none p xs (All-tail (λ y. p y ≡ false) x xs h)

after : (f now : ℕ) → nat_le f now ≡ false → now < f
after f now h = grind (arith, nat_tests)

due_later : (f now : ℕ) → nat_le f now ≡ true → nat_lt now f ≡ false
due_later f now h = grind (arith, nat_tests)

not_due : (f now : ℕ) → now < f → nat_le f now ≡ false
not_due f now h = grind (arith, nat_tests)

later : (f now : ℕ) → now < f → nat_lt now f ≡ true
later f now h = grind (arith, nat_tests)

-- none that stands behind one that is not due is due
all_after : (now : ℕ) (f : FlightState) (fs : List FlightState) → now < f.finish → AllPairs NotBefore (f ∷ fs) → All (λ (g : FlightState). now < g.finish) (f ∷ fs)
all_after now f fs lt h =
    All-cons (λ (g : FlightState). now < g.finish) f fs lt
    (All-weaker (NotBefore f) (λ (g : FlightState). now < g.finish) (λ g le. omega (arith, le, lt)) fs (pairs_head f fs h))

pub record Completes (now disk sectors : ℕ) (w : Work) (fs : List FlightState) : Type 0 where
  pub work : (served now disk sectors w fs).work ≡ fold (completed sectors) w (filter (is_due now) fs)
  pub recs : (served now disk sectors w fs).recs ≡ map (done_rec now disk sectors) (filter (is_due now) fs)
  pub left : (served now disk sectors w fs).left ≡ filter (is_later now) fs

-- the first of some requests completes, or none of them does
complete_with : (now disk sectors : ℕ) (w : Work) (f : FlightState) (fs : List FlightState) (b : Bool) → nat_le f.finish now ≡ b → AllPairs NotBefore (f ∷ fs) → Completes now disk sectors (completed sectors w f) fs → Completes now disk sectors w (f ∷ fs)
unfolding served
complete_with now disk sectors w f fs true e h rest =
    let here : served now disk sectors w (f ∷ fs) ≡ with_rec (done_rec now disk sectors f) (served now disk sectors (completed sectors w f) fs) = cond-true (nat_le f.finish now) _ _ e in
    let due : filter (is_due now) (f ∷ fs) ≡ f ∷ filter (is_due now) fs = cond-true (nat_le f.finish now) _ _ e in
    let stays : filter (is_later now) (f ∷ fs) ≡ filter (is_later now) fs = cond-false (nat_lt now f.finish) _ _ (due_later f.finish now e) in
    record {
      work = ap (λ (x : Served). x.work) here ∙ rest.work ∙ sym (ap (fold (completed sectors) w) due);
      recs = ap (λ (x : Served). x.recs) here ∙ ap (λ (rs : List Rec). done_rec now disk sectors f ∷ rs) rest.recs ∙ sym (ap (map (done_rec now disk sectors)) due);
      left = ap (λ (x : Served). x.left) here ∙ rest.left ∙ sym stays;
    }
complete_with now disk sectors w f fs false e h rest =
    let all = all_after now f fs (after f.finish now e) h in
    let here : served now disk sectors w (f ∷ fs) ≡ record { work = w; left = f ∷ fs; recs = [] } = cond-false (nat_le f.finish now) _ _ e in
    let due : filter (is_due now) (f ∷ fs) ≡ [] = filter_none (is_due now) (f ∷ fs) (All-weaker (λ (g : FlightState). now < g.finish) (λ (g : FlightState). is_due now g ≡ false) (λ g lt. not_due g.finish now lt) (f ∷ fs) all) in
    let stays : filter (is_later now) (f ∷ fs) ≡ f ∷ fs = filter_all (is_later now) (f ∷ fs) (All-weaker (λ (g : FlightState). now < g.finish) (λ (g : FlightState). is_later now g ≡ true) (λ g lt. later g.finish now lt) (f ∷ fs) all) in
    record {
      work = ap (λ (x : Served). x.work) here ∙ sym (ap (fold (completed sectors) w) due);
      recs = ap (λ (x : Served). x.recs) here ∙ sym (ap (map (done_rec now disk sectors)) due);
      left = ap (λ (x : Served). x.left) here ∙ sym stays;
    }

pub due_complete : (now disk sectors : ℕ) (w : Work) (fs : List FlightState) → AllPairs NotBefore fs → Completes now disk sectors w fs
unfolding served
due_complete now disk sectors w [] h = record { work = refl; recs = refl; left = refl }
due_complete now disk sectors w (f ∷ fs) h =
    complete_with now disk sectors w f fs (nat_le f.finish now) refl h (due_complete now disk sectors (completed sectors w f) fs (pairs_tail f fs h))
