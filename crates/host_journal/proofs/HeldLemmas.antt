-- What is held of guests, and the text that it makes.
use Rattle.std.proofs.Common.{◌≡◌, ◌∙◌, ℕ, zero, suc, ◌<◌, List, [], ◌∷◌, ◌++◌, Option, Some, Bool, true, false, refl, sym, ap, subst, arith, length, slice_get, inl, inr}
use Rattle.std.proofs.lemmas.Bool.{cases_eq}
use Rattle.std.proofs.lemmas.List.{get_or-set_same, get_or-set_other, length-set}
use Rattle.std.proofs.lemmas.Option.{get_or_from_slice_get, slice_get-get_or, slice_get_within}
use Rattle.std.specs.Prelude.{slice_set}
use Rattle.std.specs.List.{filter}
use Rattle.tb_io.specs.Puts.{Takes, TakesPart}
use Rattle.trace_rec.specs.declared.rec.Rec.{Rec}
use Rattle.host_journal.specs.Entries.{Entry, Ran, End}
use Rattle.host_journal.specs.Guests.{is_below, recs_below, ticks_shown, guests_text, guests_of}
use Rattle.host_journal.specs.Holding.{Holds}
use Rattle.host_journal.specs.Parts.{nothing_part}
use Rattle.host_journal.specs.Printed.{entry_recs}
use Rattle.host_journal.specs.Standing.{Adds}
use Rattle.host_journal.specs.declared.head.Head.{Head}
use Rattle.host_journal.specs.declared.quantum.Quantum.{Quantum}
use Rattle.host_journal.proofs.GuestLemmas.{below_none, below_own, below_other, put_whole, put_part}

some_same : {H : Type 0} (x y : H) → Some x ≡ Some y → x ≡ y
some_same x y e = cc

-- one more guest, of no records
pub holds_push : {H : Type 0} (has : H → List Rec → Type 0) (xs : List H) (x : H) → Holds has xs (λ _. []) → has x []
    → (g : ℕ) (y : H) → slice_get (xs ++ x ∷ []) g ≡ Some y → has y []
holds_push has [] x h e zero y at = subst (λ z. has z []) (some_same x y at) e
holds_push has [] x h e (suc g) y at = absurd (cc)
holds_push has (z ∷ zs) x h e zero y at = h 0 y at
holds_push has (z ∷ zs) x h e (suc g) y at = holds_push has zs x (λ k. h (suc k)) e g y at

-- a guest's part gets the records of a quantum, and the others stay
pub holds_more : {H : Type 0} (has : H → List Rec → Type 0) (k : ℕ) (held : List H) (es : List Entry) (q : Quantum) (recs : List Rec) (old new : H) → slice_get held q.guest ≡ Some old
    → ((kept : List Rec) → has old kept → has new (kept ++ filter (is_below k) recs)) → Holds has held (recs_below k es) → Holds has (slice_set held q.guest new) (recs_below k (es ++ Ran q recs ∷ []))
holds_more {H} has k held es q recs old new at adds holds = λ g x there. elim (cases_eq q.guest g) [
  | inl same ↦
      let there' : slice_get (slice_set held q.guest new) q.guest ≡ Some x = subst (λ i. slice_get (slice_set held q.guest new) i ≡ Some x) (sym same) there in
      let is : new ≡ x = sym (get_or-set_same held q.guest new x (slice_get_within held q.guest old at)) ∙ get_or_from_slice_get (slice_set held q.guest new) q.guest x x there' in
      subst (λ (i : ℕ). has x (recs_below k (es ++ Ran q recs ∷ []) i)) same
      (subst (λ (y : H). has y (recs_below k (es ++ Ran q recs ∷ []) q.guest)) is
      (subst (has new) (sym (below_own k es q recs)) (adds (recs_below k es q.guest) (holds q.guest old at))))
  | inr other ↦
      let within : g < length held = omega (arith, slice_get_within (slice_set held q.guest new) g x there, length-set held q.guest new) in
      let is = sym (get_or-set_other held q.guest g new x (λ same. other (sym same))) ∙ get_or_from_slice_get (slice_set held q.guest new) g x x there in
      subst (has x) (sym (below_other k es q recs g other)) (holds g x (slice_get-get_or held g x within ∙ ap Some is))
]

-- an entry that has no records
pub holds_quiet : {H : Type 0} (has : H → List Rec → Type 0) (k : ℕ) (held : List H) (es : List Entry) (e : Entry) → ((g : ℕ) → entry_recs g e ≡ []) → Holds has held (recs_below k es) → Holds has held (recs_below k (es ++ e ∷ []))
holds_quiet has k held es e quiet holds = λ g x at. subst (has x) (sym (below_none k es e g (quiet g))) (holds g x at)

-- what was held is put at the end of a run
pub text_whole : {H : Type 0} (has : H → List Rec → Type 0) (title : List ℕ) (shown : ℕ → List ℕ → List Rec → List ℕ) (h : Head) (held : List H) (f g : Bool) (a b before : Option (List ℕ)) (es : List Entry)
    → ((recs : ℕ → List Rec) → Holds has held recs → Adds f a g b (guests_text title shown h recs)) → f ≡ false → g ≡ false → Takes before a [] → (f ≡ false → Holds has held (recs_below (ticks_shown h) es))
    → Takes before b (guests_of title shown h (es ++ End ∷ []))
text_whole has title shown h held f g a b before es adds began whole nothing holds =
    put_whole f g a b before _ whole (adds (recs_below (ticks_shown h) (es ++ End ∷ [])) (holds_quiet has (ticks_shown h) held es End (λ i. refl) (holds began))) nothing

-- or a first part of it
pub text_part : {H : Type 0} (has : H → List Rec → Type 0) (title : List ℕ) (shown : ℕ → List ℕ → List Rec → List ℕ) (h : Head) (held : List H) (f g : Bool) (a b before : Option (List ℕ)) (es : List Entry)
    → ((recs : ℕ → List Rec) → Holds has held recs → Adds f a g b (guests_text title shown h recs)) → (f ≡ true → b ≡ a) → Takes before a [] → (f ≡ false → Holds has held (recs_below (ticks_shown h) es))
    → TakesPart before b (guests_of title shown h (es ++ End ∷ []))
text_part has title shown h held true g a b before es adds stopped nothing holds =
    subst (λ (x : Option (List ℕ)). TakesPart before x (guests_of title shown h (es ++ End ∷ []))) (sym (stopped refl)) (nothing_part before a _ nothing)
text_part has title shown h held false g a b before es adds stopped nothing holds =
    put_part false g a b before _ (adds (recs_below (ticks_shown h) (es ++ End ∷ [])) (holds_quiet has (ticks_shown h) held es End (λ i. refl) (holds refl))) nothing
