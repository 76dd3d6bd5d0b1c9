-- The steps find the first fault.
use Rattle.std.proofs.Common.{◌≡◌, ℕ, ◌∙◌, List, Bool, true, false, Option, Some, None, Ok, Err, refl, sym, ap, subst, codes, length, Result, inl, inr}
use Rattle.std.specs.Prelude.{◌==◌, not, unwrap_or, is_some, if◌then◌else◌}
use Rattle.std.specs.Str.{bytes_eq}
use Rattle.std.proofs.lemmas.Bool.{cases_Bool}
use Rattle.std.proofs.lemmas.Slice.Eq.{bytes_eq-Decides}
use Rattle.trace_rec.specs.declared.view.View.{View}
use Rattle.trace_rec.specs.declared.view.View.TheVariants.{Summary}
use Rattle.words_line.specs.Parses.{Places}
use Rattle.words_line.specs.Words.{is_number, number_of, view_of, faults, asked}
use Rattle.words_line.specs.Forms.{◌>>=◌, run_step, plan_step, gen_step, steps, known_view}
use Rattle.words_line.specs.declared.command.Command.TheVariants.{Run, Gen}
use Rattle.words_line.specs.declared.word_fault.WordFault.{WordFault}
use Rattle.words_line.specs.declared.word_fault.WordFault.TheVariants.{EmptyName, ExtraOption, MissingOption, BadNumber, BadView}

abbrev at : List ℕ → List ℕ → Option (List ℕ) → Option (List ℕ) → Places
at command about ticks view = record { command = command; about = about; host_ticks = ticks; view = view }

-- a test asked the other way round
turned : {A : Type 0} (b : Bool) (x y : A) → (if b then x else y) ≡ (if not b then y else x)
turned true x y = refl
turned false x y = refl

by_test : {A : Type 0} (b : Bool) (n : ℕ) (f : ℕ → Result A WordFault)
    → ((if b then Ok n else Err BadNumber) >>= f) ≡ (if not b then Err BadNumber else f n)
by_test true n f = refl
by_test false n f = refl

under_number : {A : Type 0} (t : List ℕ) (f : ℕ → Result A WordFault)
    → ((if is_number 0 1000000 t then Ok (number_of t) else Err BadNumber) >>= f) ≡ (if not (is_number 0 1000000 t) then Err BadNumber else f (number_of t))
under_number t f = by_test (is_number 0 1000000 t) (number_of t) f

view_first : (about : List ℕ) (t : ℕ) (v : Option View)
    → (known_view v >>= λ w. Ok (Run about t w)) ≡ (if not (is_some v) then Err BadView else Ok (Run about t (unwrap_or v Summary)))
view_first about t None = refl
view_first about t (Some v) = refl

-- a run with each kind of options
run_first : (about : List ℕ) (ticks view : Option (List ℕ)) → run_step (at (codes "run") about ticks view) ≡ asked (at (codes "run") about ticks view)
unfolding faults run_step
run_first about None view = refl
run_first about (Some t) None = ap (λ r. if length about == 0 then Err EmptyName else r) (under_number t (λ n. Ok (Run about n Summary)))
run_first about (Some t) (Some v) =
    ap (λ r. if length about == 0 then Err EmptyName else r)
    (under_number t (λ n. known_view (view_of v) >>= λ w. Ok (Run about n w)) ∙ ap (λ r. if not (is_number 0 1000000 t) then Err BadNumber else r) (view_first about (number_of t) (view_of v)))

plan_first : (about : List ℕ) (ticks view : Option (List ℕ)) → plan_step (at (codes "plan") about ticks view) ≡ asked (at (codes "plan") about ticks view)
unfolding faults plan_step
plan_first about None None = refl
plan_first about None (Some v) = refl
plan_first about (Some t) None = refl
plan_first about (Some t) (Some v) = refl

gen_by : {A : Type 0} (b : Bool) (n : ℕ) (r : Result A WordFault) → ((if b then Ok n else Err BadNumber) >>= λ m. r) ≡ (if not b then Err BadNumber else r)
gen_by b n r = by_test b n (λ m. r)

gen_first : (about : List ℕ) (ticks view : Option (List ℕ)) → gen_step (at (codes "gen") about ticks view) ≡ asked (at (codes "gen") about ticks view)
unfolding faults gen_step
gen_first about None None = by_test (is_number 2 32 about) (number_of about) (λ n. Err MissingOption)
gen_first about (Some t) (Some v) = by_test (is_number 2 32 about) (number_of about) (λ n. Err ExtraOption)
gen_first about None (Some v) = by_test (is_number 2 32 about) (number_of about) (λ n. Err ExtraOption)
gen_first about (Some t) None =
    by_test (is_number 2 32 about) (number_of about) (λ n. (if is_number 0 1000000 t then Ok (number_of t) else Err BadNumber) >>= λ k. Ok (Gen n k))
    ∙ ap (λ r. if not (is_number 2 32 about) then Err BadNumber else r) (under_number t (λ k. Ok (Gen (number_of about) k)))

steps_at : (command about : List ℕ) (ticks view : Option (List ℕ)) → steps (at command about ticks view) ≡ asked (at command about ticks view)
unfolding steps faults
steps_at command about ticks view = elim (cases_Bool (bytes_eq command (codes "run"))) [
  | inl r ↦ subst (λ (c : List ℕ). steps (at c about ticks view) ≡ asked (at c about ticks view)) (sym ((bytes_eq-Decides command (codes "run")).0 r)) (run_first about ticks view)
  | inr nr ↦ elim (cases_Bool (bytes_eq command (codes "plan"))) [
    | inl p ↦ subst (λ (c : List ℕ). steps (at c about ticks view) ≡ asked (at c about ticks view)) (sym ((bytes_eq-Decides command (codes "plan")).0 p)) (plan_first about ticks view)
    | inr np ↦ elim (cases_Bool (bytes_eq command (codes "gen"))) [
      | inl g ↦ subst (λ (c : List ℕ). steps (at c about ticks view) ≡ asked (at c about ticks view)) (sym ((bytes_eq-Decides command (codes "gen")).0 g)) (gen_first about ticks view)
      | inr ng ↦ simp (nr, np, ng)
    ]
  ]
]

-- the steps are what the list of faults says
pub steps_first : (p : Places) → steps p ≡ asked p
steps_first p = steps_at p.command p.about p.host_ticks p.view
