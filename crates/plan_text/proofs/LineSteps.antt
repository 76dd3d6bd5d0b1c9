-- The lines of slots and guests, one at a time.
use Rattle.std.proofs.Common.{◌≡◌, ℕ, ◌+◌, List, [], ◌∷◌, ◌++◌, map, drop, sym, ap, ◌∙◌, append_assoc, arith}
use Rattle.std.proofs.lemmas.List.FromFn.{map-range_with_len_more}
use Rattle.std.specs.List.{zip, range_with_len}
use Rattle.exp_file.specs.declared.experiment.Experiment.{Experiment}
use Rattle.exp_file.specs.declared.guest_spec.GuestSpec.{GuestSpec}
use Rattle.plan_text.specs.Texts.{slot_line, guest_lines}

pub slot_more : (e : Experiment) (p : List ℕ) (first lines next : List (List ℕ)) (s : ℕ) (line : List ℕ) → lines ≡ first ++ map (slot_line e p) (range_with_len 0 s) → line ≡ slot_line e p s
    → next ≡ lines ++ line ∷ [] → next ≡ first ++ map (slot_line e p) (range_with_len 0 (s + 1))
slot_more e p first lines next s line before is pushed =
    pushed ∙ ap (λ (z : List (List ℕ)). z ++ line ∷ []) before ∙ append_assoc first (map (slot_line e p) (range_with_len 0 s)) (line ∷ [])
    ∙ ap (λ (z : List ℕ). first ++ (map (slot_line e p) (range_with_len 0 s) ++ z ∷ [])) is
    ∙ ap (λ (z : List (List ℕ)). first ++ z) (sym (map-range_with_len_more (slot_line e p) 0 s s (omega arith)))

-- the lines of guests from the i-th on
abbrev pub from : ℕ → List GuestSpec → List ℕ → List (List ℕ)
from i gs p = guest_lines i (zip (drop i gs) (drop i p))
