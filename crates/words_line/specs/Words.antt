-- The words of a command, after the program's own name.
use Rattle.std.specs.Prelude.{◌≡◌, ℕ, ◌==◌, nat_le, ◌&&◌, ◌||◌, Bool, false, not, List, [], ◌∷◌, length, Option, Some, None, is_some, unwrap_or, Result, Ok, Err, codes, if◌then◌else◌}
use Rattle.std.specs.Fmt.{decimal}
use Rattle.std.specs.Str.{bytes_eq}
use Rattle.std.specs.Str.Parse.{digits_value}
use Rattle.std.specs.Option.{option_map_or}
use Rattle.trace_rec.specs.declared.view.View.{View}
use Rattle.trace_rec.specs.declared.view.View.TheVariants.{Journal, Events, Traces, Summary}
use Rattle.words_line.specs.Parses.{Places, places}
use Rattle.words_line.specs.declared.command.Command.{Command}
use Rattle.words_line.specs.declared.command.Command.TheVariants.{Run, Plan, Gen}
use Rattle.words_line.specs.declared.word_fault.WordFault.{WordFault}
use Rattle.words_line.specs.declared.word_fault.WordFault.TheVariants.{NotWords, UnknownCommand, EmptyName, ExtraOption, MissingOption, BadNumber, BadView}
use Rattle.words_line.specs.declared.words_err.WordsErr.{WordsErr}
use Rattle.words_line.specs.declared.words_err.WordsErr.TheVariants.{Fault, NoMemory}

-- the number that a text has as its digits, and whether the text is the decimal of one in a range
abbrev pub number_of : List ℕ → ℕ
number_of text = digits_value 10 text

unfoldable pub is_number : ℕ → ℕ → List ℕ → Bool
is_number least most text =
    nat_le least (number_of text) && (nat_le (number_of text) most && bytes_eq text (decimal (number_of text)))

-- the view of a name
unfoldable pub view_of : List ℕ → Option View
view_of name =
    if bytes_eq name (codes "journal") then Some Journal
    else (if bytes_eq name (codes "events") then Some Events
    else (if bytes_eq name (codes "traces") then Some Traces
    else (if bytes_eq name (codes "summary") then Some Summary
    else None)))

abbrev pub is_run : Places → Bool
is_run p = bytes_eq p.command (codes "run")

abbrev pub is_plan : Places → Bool
is_plan p = bytes_eq p.command (codes "plan")

abbrev pub is_gen : Places → Bool
is_gen p = bytes_eq p.command (codes "gen")

-- what may be wrong, in the order in which it is told
unfoldable pub faults : Places → List (WordFault × Bool)
faults p =
    (UnknownCommand, not (is_run p || (is_plan p || is_gen p)))
    ∷ (EmptyName, (is_run p || is_plan p) && (length p.about == 0))
    ∷ (BadNumber, is_gen p && not (is_number 2 32 p.about))
    ∷ (ExtraOption, (is_plan p && (is_some p.host_ticks || is_some p.view)) || (is_gen p && is_some p.view))
    ∷ (MissingOption, (is_run p || is_gen p) && not (is_some p.host_ticks))
    ∷ (BadNumber, option_map_or (λ t. not (is_number 0 1000000 t)) p.host_ticks false)
    ∷ (BadView, option_map_or (λ v. not (is_some (view_of v))) p.view false)
    ∷ []

-- the first that is wrong, or else this
abbrev pub unless : {A : Type 0} → List (WordFault × Bool) → A → Result A WordFault
unless [] x = Ok x
unless (f ∷ fs) x = if f.1 then Err f.0 else unless fs x

-- what is told where no view is asked for
abbrev pub shown_view : Option (List ℕ) → View
shown_view None = Summary
shown_view (Some name) = unwrap_or (view_of name) Summary

abbrev pub ticks_in : Option (List ℕ) → ℕ
ticks_in None = 0
ticks_in (Some text) = number_of text

-- what the words mean where nothing is wrong
abbrev pub meant : Places → Command
meant p =
    if is_run p then Run p.about (ticks_in p.host_ticks) (shown_view p.view)
    else (if is_plan p then Plan p.about
    else Gen (number_of p.about) (ticks_in p.host_ticks))

abbrev pub asked : Places → Result Command WordFault
asked p = unless (faults p) (meant p)

-- the command that the words give, or the first fault
abbrev pub at_places : Option Places → Result Command WordFault
at_places None = Err NotWords
at_places (Some p) = asked p

unfoldable pub command : List (List ℕ) → Result Command WordFault
command words = at_places (places words)

-- an answer is this one, unless memory ran out
abbrev pub Answers : Result Command WordFault → Result Command WordsErr → Type 0
Answers r (Ok c) = r ≡ Ok c
Answers r (Err (Fault f)) = r ≡ Err f
Answers r (Err NoMemory) = Unit {0}
