-- Texts of guests one behind another, and the records of a guest that entries give.
use Rattle.std.proofs.Common.{◌≡◌, ◌∙◌, ℕ, zero, suc, ◌+◌, ◌<◌, ◌≤◌, List, [], ◌∷◌, ◌++◌, Option, Bool, true, false, refl, sym, ap, subst, arith, length, take, get_or, append_assoc, add-one, inl, inr}
use Rattle.std.proofs.lemmas.Bool.{cases_lt, cond-true, cond-false, eq-eqb, ne_eqb}
use Rattle.std.proofs.lemmas.List.{append-nil, take_more, get_or_default}
use Rattle.std.proofs.lemmas.List.Elements.{filter-append}
use Rattle.std.proofs.lemmas.Grind.{flat_map-append}
use Rattle.std.specs.Prelude.{◌==◌}
use Rattle.std.specs.List.{filter}
use Rattle.tb_io.specs.Puts.{Takes, TakesPart}
use Rattle.trace_rec.specs.declared.rec.Rec.{Rec}
use Rattle.host_journal.specs.Entries.{Entry, Ran}
use Rattle.host_journal.specs.Guests.{is_below, recs_below, name_at, texts_below}
use Rattle.host_journal.specs.Parts.{stands_part, nothing_part}
use Rattle.host_journal.specs.Printed.{entry_recs, recs_of}
use Rattle.host_journal.specs.Standing.{Stands, Adds}
use Rattle.host_journal.specs.declared.quantum.Quantum.{Quantum}
use Rattle.host_journal.proofs.StandingLemmas.{adds_more, adds_cut}

-- what is put of the first guests is a front of what is put of all
rest_below : (t : ℕ → List ℕ) (i n : ℕ) → i ≤ n → (y : List ℕ) × (texts_below t n ≡ texts_below t i ++ y)
rest_below t i zero h = ([], ap (texts_below t) (let e : zero ≡ i = omega arith in e) ∙ sym (append-nil (texts_below t i)))
rest_below t i (suc n) h = elim (cases_lt i (suc n)) [
  | inl lt ↦
      let less = rest_below t i n (omega arith) in
      (less.0 ++ t n, ap (λ (x : List ℕ). x ++ t n) less.1 ∙ append_assoc (texts_below t i) less.0 (t n))
  | inr ge ↦ ([], ap (texts_below t) (let e : suc n ≡ i = omega arith in e) ∙ sym (append-nil (texts_below t i)))
]

-- one more text, and the rest of them left out
pub text_added : (f g h : Bool) (a b c : Option (List ℕ)) (t : ℕ → List ℕ) (i : ℕ) (x : List ℕ) → x ≡ t i
    → Adds f a g b (texts_below t i) → Adds g b h c x → Adds f a h c (texts_below t (i + 1))
text_added f g h a b c t i x e p q =
    subst (λ (z : List ℕ). Adds f a h c z) (ap (λ (y : List ℕ). texts_below t i ++ y) e ∙ sym (ap (texts_below t) (add-one i))) (adds_more f g h a b c (texts_below t i) x p q)

pub text_cut : (f g h : Bool) (a b c : Option (List ℕ)) (t : ℕ → List ℕ) (i n : ℕ) (x : List ℕ) → x ≡ t i → i < n → h ≡ true
    → Adds f a g b (texts_below t i) → Adds g b h c x → Adds f a h c (texts_below t n)
text_cut f g h a b c t i n x e lt failed p q =
    let rest = rest_below t (i + 1) n (omega arith) in
    subst (λ (z : List ℕ). Adds f a h c z) (sym rest.1) (adds_cut f h a c (texts_below t (i + 1)) rest.0 failed (text_added f g h a b c t i x e p q))

-- a text of three parts
pub three_cut : (f g : Bool) (a b : Option (List ℕ)) (x y z : List ℕ) → g ≡ true → Adds f a g b x → Adds f a g b ((x ++ y) ++ z)
three_cut f g a b x y z e p = adds_cut f g a b (x ++ y) z e (adds_cut f g a b x y e p)

pub three_short : (f g k : Bool) (a b c : Option (List ℕ)) (x y z : List ℕ) → k ≡ true → Adds f a g b x → Adds g b k c y → Adds f a k c ((x ++ y) ++ z)
three_short f g k a b c x y z e p q = adds_cut f k a c (x ++ y) z e (adds_more f g k a b c x y p q)

pub three_whole : (f g k l : Bool) (a b c d : Option (List ℕ)) (x y z : List ℕ) → Adds f a g b x → Adds g b k c y → Adds k c l d z → Adds f a l d ((x ++ y) ++ z)
three_whole f g k l a b c d x y z p q s = adds_more f k l a c d (x ++ y) z (adds_more f g k a b c x y p q) s

-- a whole text, put where nothing was put before
stands_nothing : (failed : Bool) (before now : Option (List ℕ)) → Takes before now [] → Stands failed before now []
stands_nothing false before now t = t
stands_nothing true before now t = nothing_part before now [] t

pub put_whole : (f g : Bool) (a b before : Option (List ℕ)) (text : List ℕ) → g ≡ false → Adds f a g b text → Takes before a [] → Takes before b text
put_whole f false a b before text whole adds nothing = adds before [] (stands_nothing f before a nothing)
put_whole f true a b before text whole adds nothing = absurd (cc whole)

pub put_part : (f g : Bool) (a b before : Option (List ℕ)) (text : List ℕ) → Adds f a g b text → Takes before a [] → TakesPart before b text
put_part f g a b before text adds nothing = stands_part g before b text (adds before [] (stands_nothing f before a nothing))

-- the records of one more entry
below_one : (k : ℕ) (es : List Entry) (e : Entry) (g : ℕ) → recs_below k (es ++ e ∷ []) g ≡ recs_below k es g ++ filter (is_below k) (entry_recs g e)
below_one k es e g =
    ap (filter (is_below k)) (flat_map-append (entry_recs g) es (e ∷ []) ∙ ap (λ (x : List Rec). recs_of g es ++ x) (append-nil (entry_recs g e)))
    ∙ filter-append (is_below k) (recs_of g es) (entry_recs g e)

pub below_none : (k : ℕ) (es : List Entry) (e : Entry) (g : ℕ) → entry_recs g e ≡ [] → recs_below k (es ++ e ∷ []) g ≡ recs_below k es g
below_none k es e g none = below_one k es e g ∙ ap (λ (x : List Rec). recs_below k es g ++ filter (is_below k) x) none ∙ append-nil (recs_below k es g)

pub below_own : (k : ℕ) (es : List Entry) (q : Quantum) (recs : List Rec) → recs_below k (es ++ Ran q recs ∷ []) q.guest ≡ recs_below k es q.guest ++ filter (is_below k) recs
below_own k es q recs =
    below_one k es (Ran q recs) q.guest
    ∙ ap (λ (x : List Rec). recs_below k es q.guest ++ filter (is_below k) x) (cond-true (q.guest == q.guest) recs [] (eq-eqb q.guest q.guest refl))

pub below_other : (k : ℕ) (es : List Entry) (q : Quantum) (recs : List Rec) (g : ℕ) → (q.guest ≡ g → ⊥) → recs_below k (es ++ Ran q recs ∷ []) g ≡ recs_below k es g
below_other k es q recs g other = below_none k es (Ran q recs) g (cond-false (q.guest == g) recs [] (ne_eqb q.guest g other))

-- one more record is of an early tick or not
pub kept_more : (k : ℕ) (kept recs : List Rec) (i : ℕ) (r : Rec) → i < length recs → get_or recs i r ≡ r
    → (kept ++ filter (is_below k) (take i recs)) ++ filter (is_below k) (r ∷ []) ≡ kept ++ filter (is_below k) (take (i + 1) recs)
kept_more k kept recs i r lt same =
    append_assoc kept (filter (is_below k) (take i recs)) (filter (is_below k) (r ∷ []))
    ∙ ap (λ (x : List Rec). kept ++ x) (sym (filter-append (is_below k) (take i recs) (r ∷ [])) ∙ ap (filter (is_below k)) (sym (take_more recs i r lt ∙ ap (λ (x : Rec). take i recs ++ x ∷ []) same)))

pub name_is : (names : List (List ℕ)) (i : ℕ) (x : List ℕ) → i < length names → x ≡ get_or names i x → x ≡ name_at names i
name_is names i x lt e = e ∙ get_or_default names i x [] lt
