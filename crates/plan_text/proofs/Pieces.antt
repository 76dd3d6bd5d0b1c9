-- What a sink has taken after one more line.
use Rattle.std.proofs.Common.{◌≡◌, ℕ, ◌+◌, ◌<◌, List, [], ◌∷◌, ◌++◌, length, take, drop, get_or, Option, sym, ap, ◌∙◌, subst, append-nil}
use Rattle.std.proofs.lemmas.List.{take_more, take-append-drop}
use Rattle.std.proofs.lemmas.List.Folds.{concat-append}
use Rattle.std.specs.List.{concat}
use Rattle.tb_io.specs.Puts.{Takes, TakesPart}
use Rattle.tb_io.proofs.Parts.{takes_more, part_more, part_longer}

-- the first i + 1 lines
lines_more : (xs : List (List ℕ)) (i : ℕ) (x : List ℕ) → i < length xs → x ≡ get_or xs i x → concat (take (i + 1) xs) ≡ concat (take i xs) ++ x
lines_more xs i x h same =
    ap concat (take_more xs i x h) ∙ concat-append (take i xs) (get_or xs i x ∷ []) ∙ ap (λ (z : List ℕ). concat (take i xs) ++ z) (append-nil (get_or xs i x) ∙ sym same)

pub line_taken : (a b c : Option (List ℕ)) (xs : List (List ℕ)) (i : ℕ) (x : List ℕ) → i < length xs → x ≡ get_or xs i x
    → Takes a b (concat (take i xs)) → Takes b c x → Takes a c (concat (take (i + 1) xs))
line_taken a b c xs i x h same before then =
    subst (λ (z : List ℕ). Takes a c z) (sym (lines_more xs i x h same)) (takes_more a b c (concat (take i xs)) x before then)

-- a part of one more line is a part of all lines
pub line_cut : (a b c : Option (List ℕ)) (xs : List (List ℕ)) (i : ℕ) (x : List ℕ) → i < length xs → x ≡ get_or xs i x
    → Takes a b (concat (take i xs)) → TakesPart b c x → TakesPart a c (concat xs)
line_cut a b c xs i x h same before then =
    let some : TakesPart a c (concat (take (i + 1) xs)) = subst (λ (z : List ℕ). TakesPart a c z) (sym (lines_more xs i x h same)) (part_more a b c (concat (take i xs)) x before then) in
    let all : concat (take (i + 1) xs) ++ concat (drop (i + 1) xs) ≡ concat xs = sym (concat-append (take (i + 1) xs) (drop (i + 1) xs)) ∙ ap concat (take-append-drop (i + 1) xs) in
    subst (λ (z : List ℕ). TakesPart a c z) all (part_longer a c (concat (take (i + 1) xs)) (concat (drop (i + 1) xs)) some)
