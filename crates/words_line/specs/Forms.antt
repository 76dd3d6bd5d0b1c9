-- The steps in which a command is read, once its words have their places.
use Rattle.std.specs.Prelude.{ℕ, ◌==◌, ◌||◌, List, length, Option, Some, None, is_some, option_map, Result, Ok, Err, if◌then◌else◌}
use Rattle.trace_rec.specs.declared.view.View.{View}
use Rattle.trace_rec.specs.declared.view.View.TheVariants.{Summary}
use Rattle.words_line.specs.Parses.{Places}
use Rattle.words_line.specs.Words.{is_number, number_of, view_of, is_run, is_plan, is_gen}
use Rattle.words_line.specs.declared.form.Form.{Form}
use Rattle.words_line.specs.declared.command.Command.{Command}
use Rattle.words_line.specs.declared.command.Command.TheVariants.{Run, Plan, Gen}
use Rattle.words_line.specs.declared.word_fault.WordFault.{WordFault}
use Rattle.words_line.specs.declared.word_fault.WordFault.TheVariants.{UnknownCommand, EmptyName, ExtraOption, MissingOption, BadNumber, BadView}

abbrev pub places_of : Form → Places
places_of f = record {
  command = f.command.now;
  about = f.about.now;
  host_ticks = option_map (λ s. s.now) f.host_ticks;
  view = option_map (λ s. s.now) f.view;
}

infixl 10 ◌>>=◌
abbrev pub ◌>>=◌ : {A B : Type 0} → Result A WordFault → (A → Result B WordFault) → Result B WordFault
(Ok x) >>= f = f x
(Err e) >>= f = Err e

abbrev pub number_step : ℕ → ℕ → List ℕ → Result ℕ WordFault
number_step least most text = if is_number least most text then Ok (number_of text) else Err BadNumber

abbrev pub ticks_step : Option (List ℕ) → Result ℕ WordFault
ticks_step None = Err MissingOption
ticks_step (Some text) = number_step 0 1000000 text

abbrev pub known_view : Option View → Result View WordFault
known_view None = Err BadView
known_view (Some v) = Ok v

abbrev pub view_step : Option (List ℕ) → Result View WordFault
view_step None = Ok Summary
view_step (Some name) = known_view (view_of name)

unfoldable pub run_step : Places → Result Command WordFault
run_step p = if length p.about == 0 then Err EmptyName
    else (ticks_step p.host_ticks >>= λ t. view_step p.view >>= λ v. Ok (Run p.about t v))

unfoldable pub plan_step : Places → Result Command WordFault
plan_step p = if length p.about == 0 then Err EmptyName
    else (if is_some p.host_ticks || is_some p.view then Err ExtraOption else Ok (Plan p.about))

unfoldable pub gen_step : Places → Result Command WordFault
gen_step p = number_step 2 32 p.about >>= λ n. if is_some p.view then Err ExtraOption
    else (ticks_step p.host_ticks >>= λ t. Ok (Gen n t))

unfoldable pub steps : Places → Result Command WordFault
steps p = if is_run p then run_step p else (if is_plan p then plan_step p else (if is_gen p then gen_step p else Err UnknownCommand))
