-- Decimals of numbers in a range.
use Rattle.std.proofs.Common.{◌≡◌, ℕ, ◌<◌, ◌≤◌, ◌^◌, ◌∙◌, List, true, Ok, Err, sym, ap, arith}
use Rattle.std.specs.Prelude.{nat_le, ◌&&◌}
use Rattle.std.proofs.lemmas.Bool.{and_parts, and_from, leb-true, le-leb, cond-true, cond-false, false_from_ne_true}
use Rattle.std.proofs.lemmas.Slice.Eq.{bytes_eq-Decides}
use Rattle.std.proofs.lemmas.Fmt.{decimal_is_IsNumeral}
use Rattle.std.specs.Fmt.{decimal}
use Rattle.std.specs.Str.{bytes_eq}
use Rattle.words_line.specs.Words.{is_number, number_of}
use Rattle.words_line.specs.Forms.{number_step}
use Rattle.words_line.specs.declared.word_fault.WordFault.TheVariants.{BadNumber}

pub number_is : (n : ℕ) (text : List ℕ) → n < 2 ^ 64 → text ≡ decimal n → number_of text ≡ n
number_is n text small is = ap number_of is ∙ (decimal_is_IsNumeral n small).1

pub is_number_of : (least most n : ℕ) (text : List ℕ) → n < 2 ^ 64 → text ≡ decimal n → least ≤ n → n ≤ most → is_number least most text ≡ true
unfolding is_number
is_number_of least most n text small is low high =
    let e = number_is n text small is in
    rw e (and_from _ _ (le-leb least n low) (and_from _ _ (le-leb n most high) ((bytes_eq-Decides text (decimal n)).1 is)))

pub number_found : (least most n : ℕ) (text : List ℕ) → n < 2 ^ 64 → text ≡ decimal n → least ≤ n → n ≤ most → Ok n ≡ number_step least most text
number_found least most n text small is low high =
    sym (cond-true _ _ _ (is_number_of least most n text small is low high) ∙ ap Ok (number_is n text small is))

-- what a true test of a decimal says
pub is_number_says : (least most : ℕ) (text : List ℕ) → is_number least most text ≡ true
    → (least ≤ number_of text) × (number_of text ≤ most) × (text ≡ decimal (number_of text))
unfolding is_number
is_number_says least most text h =
    let parts = and_parts (nat_le least (number_of text)) (nat_le (number_of text) most && bytes_eq text (decimal (number_of text))) h in
    let more = and_parts (nat_le (number_of text) most) (bytes_eq text (decimal (number_of text))) parts.1 in
    (leb-true least (number_of text) parts.0, leb-true (number_of text) most more.0, (bytes_eq-Decides text (decimal (number_of text))).0 more.1)

pub number_missing : (least most : ℕ) (text : List ℕ) → most < 2 ^ 64
    → ((n : ℕ) → n < 2 ^ 64 → text ≡ decimal n → least ≤ n → n ≤ most → ⊥) → Err BadNumber ≡ number_step least most text
number_missing least most text small none = sym (cond-false (is_number least most text) _ _ (false_from_ne_true _ (λ h.
    let says = is_number_says least most text h in
    none (number_of text) (omega (arith, says.1, small)) says.2 says.0 says.1)))
