-- A list without its last item.
use Rattle.std.proofs.Common.{◌≡◌, List, ◌++◌, ◌∷◌, [], map, All, Some, ap, ◌∙◌}
use Rattle.std.proofs.lemmas.List.{map_push}
use Rattle.std.proofs.lemmas.List.Elements.{All-pop}

-- what holds of all items holds of the last and of the others
pub popped : {B S : Type 0} (f : B → S) (P : S → Type 0) (xs ys : List B) (x : B) → xs ≡ ys ++ x ∷ [] → All P (map f xs) → All P (map f ys) × P (f x)
popped f P xs ys x e all = All-pop P (map f xs) (map f ys) (Some (f x)) (ap (map f) e ∙ map_push f ys x) all
