-- Lists that stand in front of others.
use Rattle.std.proofs.Common.{◌≡◌, ◌≤◌, List, [], ◌∷◌, ◌++◌, length, take, min, sym, ◌∙◌, ap, arith}
use Rattle.std.proofs.lemmas.List.{length-take, take-take, take_all, take-append-le}
use Rattle.dev_face.specs.States.{StaysInFront}

shorter : {A : Type 0} (xs ys : List A) → StaysInFront xs ys → length xs ≤ length ys
shorter xs ys e =
    let counts : min (length xs) (length ys) ≡ length xs = sym (length-take (length xs) ys) ∙ ap length e in
    omega (arith, counts)

-- a list stands in front of itself
pub front_same : {A : Type 0} (xs : List A) → StaysInFront xs xs
front_same xs = take_all (length xs) xs (omega arith)

-- what stands in front of a list that stands in front of another
pub front_of : {A : Type 0} (xs ys zs : List A) → StaysInFront xs ys → StaysInFront ys zs → StaysInFront xs zs
front_of xs ys zs e1 e2 = sym (take-take (length xs) (length ys) zs (shorter xs ys e1)) ∙ ap (take (length xs)) e2 ∙ e1

-- and in front of one with more at its end
pub front_more : {A : Type 0} (xs ys : List A) (y : A) → StaysInFront xs ys → StaysInFront xs (ys ++ y ∷ [])
front_more xs ys y e = take-append-le (length xs) ys (y ∷ []) (shorter xs ys e) ∙ e
