-- The walk over plain words.
use Rattle.std.proofs.Common.{◌≡◌, ◌∙◌, ℕ, List, [], ◌∷◌, Bool, true, false, refl, sym, ap, ap₂, codes, length, arith, inl, inr, subst}
use Rattle.std.specs.Prelude.{nat_lt, Some, None, ◌==◌, is_some, fold}
use Rattle.std.specs.Str.{bytes_eq}
use Rattle.std.proofs.lemmas.Bool.{eqb-false, eqb-true, cases_Bool, false_from_ne_true, and_cases, ltb-false, cond-true}
use Rattle.std.proofs.lemmas.Slice.Eq.{bytes_eq-Decides}
use Rattle.clap.specs.Lexer.{long_of, short_of}
use Rattle.clap.specs.Walk.{Held, Row, Text, Walk, Waiting, idle, option as waits_for, is_empty, finished, nothing_held, reading_by, settled, walk, walk_from, walked}
use Rattle.clap.specs.Simple.{Shape, built, entered, filled}
use Rattle.clap.specs.Faults.{check_fault, defaults_fault, entered_fault, fault_of, settle_fault, turn_fault, walk_fault}
use Rattle.clap.specs.Kinds.{Kinds, or_else}
use Rattle.clap.specs.declared.parser.matches.ValueSource.TheVariants.{CommandLine}
use Rattle.clap.proofs.OnLiterals.{clap_on_literals}
use Rattle.words_line.specs.Parses.{Places, app, places, places_in, positional}
use Rattle.words_line.specs.Usual.{IsPlain}

-- what `clap` sees of a plain word
record Plain (w : Text) : Type 0 where
  pub dashes : bytes_eq w (45 ∷ 45 ∷ []) ≡ false
  pub long : long_of w ≡ None
  pub short : short_of w ≡ None

abbrev head_of : Text → ℕ
head_of [] = 0
head_of (x ∷ xs) = x

plain_by : (x : ℕ) (xs : Text) → (x == 45) ≡ false → Plain (x ∷ xs)
plain_by x xs ne = record {
  dashes = false_from_ne_true _ (λ h. eqb-false x 45 ne (ap (λ (w : Text). head_of w) ((bytes_eq-Decides (x ∷ xs) (45 ∷ 45 ∷ [])).0 h)));
  long = simp ne;
  short = simp ne;
}

-- a lone hyphen
dash_at : (x : ℕ) (xs : Text) → (x == 45) ≡ true → IsPlain (x ∷ xs) → Plain (x ∷ xs)
dash_at x [] same h = subst (λ (n : ℕ). Plain (n ∷ [])) (sym (eqb-true x 45 same)) (record { dashes = refl; long = refl; short = refl })
dash_at x (y ∷ ys) same h = elim (and_cases (nat_lt 1 (length (x ∷ y ∷ ys))) (x == 45) h) [
  | inl low ↦ absurd (omega (arith, ltb-false 1 (length (x ∷ y ∷ ys)) low))
  | inr ne ↦ absurd (cc (same, ne))
]

plain_at : (w : Text) → IsPlain w → Plain w
plain_at [] h = record { dashes = refl; long = refl; short = refl }
plain_at (x ∷ xs) h = elim (cases_Bool (x == 45)) [
  | inr ne ↦ plain_by x xs ne
  | inl same ↦ dash_at x xs same h
]

abbrev top : Shape
top = (built app).top

-- a fault that is not one of the walk's
abbrev later_fault : Walk → Kinds
later_fault w = or_else (entered_fault (built app) w.stopped) (or_else (settle_fault top.rules false w.held)
    (or_else (defaults_fault (settled top.rules w.held).rows top.rules) (check_fault top (finished top.rules w.held) (is_some (entered (built app) w.stopped)))))

-- what is taken in a walk that ends at w
pub places_at : (words : List Text) (w : Walk) (p : Places) → walk top.rules [] nothing_held words ≡ w → walk_fault top [] (walk_from nothing_held) words ≡ []
    → later_fault w ≡ [] → places_in (finished top.rules w.held) ≡ p → places words ≡ Some p
unfolding places
places_at words w p walked_is none later there =
    let whole : fault_of app words ≡ [] = ap₂ or_else none (ap later_fault walked_is ∙ later) in
    cond-true (is_empty (fault_of app words)) _ _ (ap is_empty whole) ∙ ap (λ (x : Walk). Some (places_in (finished top.rules x.held))) walked_is ∙ ap Some there

-- one more word
record Steps (w : Walk) (word : Text) (x : Walk) : Type 0 where
  pub goes : walked top.rules [] w word ≡ x
  pub right : turn_fault top [] w word ≡ []

record Walks (w : Walk) (words : List Text) (x : Walk) : Type 0 where
  pub goes : fold (walked top.rules []) w words ≡ x
  pub right : walk_fault top [] w words ≡ []

arrived : (w : Walk) → Walks w [] w
unfolding walk_fault
arrived w = record { goes = refl; right = refl }

step_on : (w x y : Walk) (word : Text) (rest : List Text) → Steps w word x → Walks x rest y → Walks w (word ∷ rest) y
unfolding walk_fault
step_on w x y word rest s k = record {
  goes = ap (λ (z : Walk). fold (walked top.rules []) z rest) s.goes ∙ k.goes;
  right = ap₂ or_else s.right (ap (λ (z : Walk). walk_fault top [] z rest) s.goes ∙ k.right);
}

abbrev row : Text → Text → Row
row id value = record { id = id; values = value ∷ []; count = None; source = Some CommandLine; reading = reading_by (filled (positional id)) }

abbrev held_at : List Row → Text → List Text → Held
held_at rows id values = record { rows = rows; pending = Some (id, values); skip = 0 }

abbrev walk_at : Held → Waiting → ℕ → Bool → Walk
walk_at h waiting position trails = record { held = h; waiting = waiting; position = position; is_trailing = trails; stopped = None }

abbrev ticks : Text
ticks = codes "host-ticks"

abbrev view : Text
view = codes "view"

abbrev command_row : Text → Row
command_row = row (codes "COMMAND")

-- the name of the command was read, and then what it is about
abbrev named : Text → Walk
named a = walk_at (held_at [] (codes "COMMAND") (a ∷ [])) idle 2 false

abbrev about_given : Text → Text → Walk
about_given a b = walk_at (held_at (command_row a ∷ []) (codes "ARG") (b ∷ [])) idle 3 false

abbrev ticks_wanted : List Row → ℕ → Walk
ticks_wanted rows n = walk_at (held_at rows ticks []) (waits_for ticks) n false

abbrev ticks_given : List Row → ℕ → Text → Walk
ticks_given rows n t = walk_at (held_at rows ticks (t ∷ [])) idle n false

abbrev view_wanted : List Row → ℕ → Walk
view_wanted rows n = walk_at (held_at rows view []) (waits_for view) n false

abbrev view_given : List Row → ℕ → Text → Walk
view_given rows n v = walk_at (held_at rows view (v ∷ [])) idle n false

abbrev both_rows : Text → Text → List Row
both_rows a b = command_row a ∷ row (codes "ARG") b ∷ []

first_step : (a : Text) → Plain a → Steps (walk_from nothing_held) a (named a)
unfolding clap_on_literals
first_step a p = record { goes = simp (p.dashes, p.long, p.short); right = simp (p.dashes, p.long, p.short) }

second_step : (a b : Text) → Plain b → Steps (named a) b (about_given a b)
unfolding clap_on_literals
second_step a b p = record { goes = simp (p.dashes, p.long, p.short); right = simp (p.dashes, p.long, p.short) }

ticks_step : (a b : Text) → Steps (about_given a b) (codes "--host-ticks") (ticks_wanted (both_rows a b) 3)
unfolding clap_on_literals
ticks_step a b = record { goes = refl; right = refl }

early_ticks_step : (a : Text) → Steps (named a) (codes "--host-ticks") (ticks_wanted (command_row a ∷ []) 2)
unfolding clap_on_literals
early_ticks_step a = record { goes = refl; right = refl }

number_step : (rows : List Row) (n : ℕ) (t : Text) → Plain t → Steps (ticks_wanted rows n) t (ticks_given rows n t)
unfolding clap_on_literals
number_step rows n t p = record { goes = simp (p.dashes, p.long, p.short); right = simp (p.dashes, p.long, p.short) }

view_step : (a b t : Text) → Steps (ticks_given (both_rows a b) 3 t) (codes "--view") (view_wanted (command_row a ∷ row (codes "ARG") b ∷ row ticks t ∷ []) 3)
unfolding clap_on_literals
view_step a b t = record { goes = refl; right = refl }

early_view_step : (a t : Text) → Steps (ticks_given (command_row a ∷ []) 2 t) (codes "--view") (view_wanted (command_row a ∷ row ticks t ∷ []) 2)
unfolding clap_on_literals
early_view_step a t = record { goes = refl; right = refl }

shown_step : (rows : List Row) (n : ℕ) (v : Text) → Plain v → Steps (view_wanted rows n) v (view_given rows n v)
unfolding clap_on_literals
shown_step rows n v p = record { goes = simp (p.dashes, p.long, p.short); right = simp (p.dashes, p.long, p.short) }

abbrev trailing_at : List Row → Text → Walk
trailing_at rows v = walk_at (held_at rows view (v ∷ [])) idle 2 true

dashes_step : (rows : List Row) (v : Text) → Steps (view_given rows 2 v) (codes "--") (trailing_at rows v)
unfolding clap_on_literals
dashes_step rows v = record { goes = refl; right = refl }

abbrev about_trailing : Text → Text → Text → Text → Walk
about_trailing a t v b = walk_at (held_at (command_row a ∷ row ticks t ∷ row view v ∷ []) (codes "ARG") (b ∷ [])) idle 3 true

last_step : (a t v b : Text) → Steps (trailing_at (command_row a ∷ row ticks t ∷ []) v) b (about_trailing a t v b)
unfolding clap_on_literals
last_step a t v b = record { goes = refl; right = refl }

-- a command, what it is about, and both options
pub six_words : (a b t v : Text) → IsPlain a → IsPlain b → IsPlain t → IsPlain v
    → places (a ∷ b ∷ codes "--host-ticks" ∷ t ∷ codes "--view" ∷ v ∷ []) ≡ Some (record { command = a; about = b; host_ticks = Some t; view = Some v })
unfolding clap_on_literals
six_words a b t v pa pb pt pv =
    let end : Walk = view_given (command_row a ∷ row (codes "ARG") b ∷ row ticks t ∷ []) 3 v in
    let walks : Walks (walk_from nothing_held) (a ∷ b ∷ codes "--host-ticks" ∷ t ∷ codes "--view" ∷ v ∷ []) end =
    step_on _ _ _ _ _ (first_step a (plain_at a pa))
    (step_on _ _ _ _ _ (second_step a b (plain_at b pb))
    (step_on _ _ _ _ _ (ticks_step a b)
    (step_on _ _ _ _ _ (number_step _ _ t (plain_at t pt))
    (step_on _ _ _ _ _ (view_step a b t)
    (step_on _ _ _ _ _ (shown_step _ _ v (plain_at v pv)) (arrived end)))))) in
    places_at _ end _ walks.goes walks.right refl refl

-- what it is about after `--`, whatever it begins with
pub seven_words : (a b t v : Text) → IsPlain a → IsPlain t → IsPlain v
    → places (a ∷ codes "--host-ticks" ∷ t ∷ codes "--view" ∷ v ∷ codes "--" ∷ b ∷ []) ≡ Some (record { command = a; about = b; host_ticks = Some t; view = Some v })
unfolding clap_on_literals
seven_words a b t v pa pt pv =
    let end : Walk = about_trailing a t v b in
    let walks : Walks (walk_from nothing_held) (a ∷ codes "--host-ticks" ∷ t ∷ codes "--view" ∷ v ∷ codes "--" ∷ b ∷ []) end =
    step_on _ _ _ _ _ (first_step a (plain_at a pa))
    (step_on _ _ _ _ _ (early_ticks_step a)
    (step_on _ _ _ _ _ (number_step _ _ t (plain_at t pt))
    (step_on _ _ _ _ _ (early_view_step a t)
    (step_on _ _ _ _ _ (shown_step _ _ v (plain_at v pv))
    (step_on _ _ _ _ _ (dashes_step _ v)
    (step_on _ _ _ _ _ (last_step a t v b) (arrived end))))))) in
    places_at _ end _ walks.goes walks.right refl refl

-- a command and what it is about alone
pub two_words : (a b : Text) → IsPlain a → IsPlain b → places (a ∷ b ∷ []) ≡ Some (record { command = a; about = b; host_ticks = None; view = None })
unfolding clap_on_literals
two_words a b pa pb =
    let end : Walk = about_given a b in
    let walks : Walks (walk_from nothing_held) (a ∷ b ∷ []) end =
    step_on _ _ _ _ _ (first_step a (plain_at a pa)) (step_on _ _ _ _ _ (second_step a b (plain_at b pb)) (arrived end)) in
    places_at _ end _ walks.goes walks.right refl refl

-- a command, what it is about, and the number of host ticks
pub four_words : (a b t : Text) → IsPlain a → IsPlain b → IsPlain t
    → places (a ∷ b ∷ codes "--host-ticks" ∷ t ∷ []) ≡ Some (record { command = a; about = b; host_ticks = Some t; view = None })
unfolding clap_on_literals
four_words a b t pa pb pt =
    let end : Walk = ticks_given (both_rows a b) 3 t in
    let walks : Walks (walk_from nothing_held) (a ∷ b ∷ codes "--host-ticks" ∷ t ∷ []) end =
    step_on _ _ _ _ _ (first_step a (plain_at a pa))
    (step_on _ _ _ _ _ (second_step a b (plain_at b pb))
    (step_on _ _ _ _ _ (ticks_step a b)
    (step_on _ _ _ _ _ (number_step _ _ t (plain_at t pt)) (arrived end)))) in
    places_at _ end _ walks.goes walks.right refl refl
