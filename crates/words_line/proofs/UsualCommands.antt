-- What words in their usual order mean.
use Rattle.std.proofs.Common.{◌≡◌, ◌∙◌, ℕ, ◌<◌, ◌≤◌, ◌^◌, List, [], ◌∷◌, Ok, refl, ap, codes, length, arith}
use Rattle.std.specs.Prelude.{Some, None, ◌==◌, slice_index, nat_lt}
use Rattle.std.specs.Fmt.{decimal}
use Rattle.std.proofs.lemmas.Bool.{ne_eqb, and_right}
use Rattle.std.proofs.lemmas.Fmt.{decimal_is_IsNumeral}
use Rattle.std.proofs.lemmas.Str.Parse.{digit_at}
use Rattle.trace_rec.specs.declared.view.View.TheVariants.{Journal, Summary}
use Rattle.words_line.specs.Parses.{Places}
use Rattle.words_line.specs.Usual.{IsPlain}
use Rattle.words_line.specs.Words.{command, at_places, asked, faults, view_of}
use Rattle.words_line.specs.declared.command.Command.TheVariants.{Run, Plan, Gen}
use Rattle.words_line.proofs.Numbers.{is_number_of, number_is}
use Rattle.words_line.proofs.UsualWalks.{six_words, seven_words, four_words, two_words}

decimal_plain : (n : ℕ) → n < 2 ^ 64 → IsPlain (decimal n)
decimal_plain n small =
    let num = (decimal_is_IsNumeral n small).0 in
    let digit = digit_at (decimal n) 0 num.1 num.0 in
    and_right (nat_lt 1 (length (decimal n))) (slice_index (decimal n) 0 == 45) (ne_eqb (slice_index (decimal n) 0) 45 (λ e. absurd (omega (arith, digit, e))))

abbrev run_places : List ℕ → ℕ → Places
run_places file n = record { command = codes "run"; about = file; host_ticks = Some (decimal n); view = Some (codes "journal") }

run_asked : (file : List ℕ) (n : ℕ) → 1 ≤ length file → n ≤ 1000000 → asked (run_places file n) ≡ Ok (Run file n Journal)
unfolding faults view_of
run_asked file n some few =
    let small : n < 2 ^ 64 = omega arith in
    rw (ne_eqb (length file) 0 (λ e. absurd (omega (arith, e))), is_number_of 0 1000000 n (decimal n) small refl (omega arith) few, number_is n (decimal n) small refl) refl

pub run_words : (file : List ℕ) (n : ℕ) → IsPlain file → 1 ≤ length file → n ≤ 1000000
    → command (codes "run" ∷ file ∷ codes "--host-ticks" ∷ decimal n ∷ codes "--view" ∷ codes "journal" ∷ []) ≡ Ok (Run file n Journal)
unfolding command
run_words file n plain some few =
    ap at_places (six_words (codes "run") file (decimal n) (codes "journal") refl plain (decimal_plain n (omega arith)) refl) ∙ run_asked file n some few

pub run_any : (file : List ℕ) (n : ℕ) → 1 ≤ length file → n ≤ 1000000
    → command (codes "run" ∷ codes "--host-ticks" ∷ decimal n ∷ codes "--view" ∷ codes "journal" ∷ codes "--" ∷ file ∷ []) ≡ Ok (Run file n Journal)
unfolding command
run_any file n some few =
    ap at_places (seven_words (codes "run") file (decimal n) (codes "journal") refl (decimal_plain n (omega arith)) refl) ∙ run_asked file n some few

pub plan_words : (file : List ℕ) → IsPlain file → 1 ≤ length file → command (codes "plan" ∷ file ∷ []) ≡ Ok (Plan file)
unfolding command faults
plan_words file plain some =
    ap at_places (two_words (codes "plan") file refl plain) ∙ rw (ne_eqb (length file) 0 (λ e. absurd (omega (arith, e)))) refl

summary_asked : (file : List ℕ) (n : ℕ) → 1 ≤ length file → n ≤ 1000000
    → asked (record { command = codes "run"; about = file; host_ticks = Some (decimal n); view = None }) ≡ Ok (Run file n Summary)
unfolding faults
summary_asked file n some few =
    let small : n < 2 ^ 64 = omega arith in
    rw (ne_eqb (length file) 0 (λ e. absurd (omega (arith, e))), is_number_of 0 1000000 n (decimal n) small refl (omega arith) few, number_is n (decimal n) small refl) refl

pub summary_words : (file : List ℕ) (n : ℕ) → IsPlain file → 1 ≤ length file → n ≤ 1000000
    → command (codes "run" ∷ file ∷ codes "--host-ticks" ∷ decimal n ∷ []) ≡ Ok (Run file n Summary)
unfolding command
summary_words file n plain some few =
    ap at_places (four_words (codes "run") file (decimal n) refl plain (decimal_plain n (omega arith))) ∙ summary_asked file n some few

gen_asked : (n t : ℕ) → 2 ≤ n → n ≤ 32 → t ≤ 1000000
    → asked (record { command = codes "gen"; about = decimal n; host_ticks = Some (decimal t); view = None }) ≡ Ok (Gen n t)
unfolding faults
gen_asked n t some few short =
    let low : n < 2 ^ 64 = omega arith in
    let small : t < 2 ^ 64 = omega arith in
    rw (
      is_number_of 2 32 n (decimal n) low refl some few,
      is_number_of 0 1000000 t (decimal t) small refl (omega arith) short,
      number_is n (decimal n) low refl,
      number_is t (decimal t) small refl,
    ) refl

pub gen_words : (n t : ℕ) → 2 ≤ n → n ≤ 32 → t ≤ 1000000 → command (codes "gen" ∷ decimal n ∷ codes "--host-ticks" ∷ decimal t ∷ []) ≡ Ok (Gen n t)
unfolding command
gen_words n t some few short =
    ap at_places (four_words (codes "gen") (decimal n) (decimal t) refl (decimal_plain n (omega arith)) (decimal_plain t (omega arith))) ∙ gen_asked n t some few short
