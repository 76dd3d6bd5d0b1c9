-- The command of words whose places were read.
use Rattle.std.proofs.Common.{◌≡◌, ◌∙◌, List, Some, None, Result, Err, sym, ap, subst}
use Rattle.clap.specs.Walk.{Text, rows_of}
use Rattle.clap.specs.Matches.{found_of}
use Rattle.clap.specs.declared.parser.matches.ArgMatches.{ArgMatches}
use Rattle.words_line.specs.Parses.{places, places_in}
use Rattle.words_line.specs.Words.{Answers, command, at_places, asked}
use Rattle.words_line.specs.Forms.{places_of, steps}
use Rattle.words_line.specs.declared.form.Form.{Form}
use Rattle.words_line.specs.declared.command.Command.{Command}
use Rattle.words_line.specs.declared.word_fault.WordFault.{WordFault}
use Rattle.words_line.specs.declared.word_fault.WordFault.TheVariants.{NotWords}
use Rattle.words_line.specs.declared.words_err.WordsErr.{WordsErr}
use Rattle.words_line.proofs.Orders.{steps_first}

pub refused : (words : List Text) → places words ≡ None → command words ≡ Err NotWords
unfolding command
refused words e = ap at_places e

pub taken : (words : List Text) (m : ArgMatches) (f : Form) (r : Result Command WordsErr)
    → places words ≡ Some (places_in (rows_of (found_of m))) → places_of f ≡ places_in (rows_of (found_of m))
    → Answers (steps (places_of f)) r → Answers (command words) r
unfolding command
taken words m f r placed same answers =
    subst (λ (x : Result Command WordFault). Answers x r)
    (steps_first (places_of f) ∙ ap asked same ∙ sym (ap at_places placed)) answers
