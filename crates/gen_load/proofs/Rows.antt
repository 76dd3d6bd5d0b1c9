-- Lists with one row more.
use Rattle.std.proofs.Common.{◌≡◌, ◌∙◌, ℕ, ◌+◌, ◌<◌, List, [], ◌∷◌, ◌++◌, map, map-id, flat_map, append_assoc, length, get_or, take, sym, ap, arith}
use Rattle.std.specs.List.{range_with_len}
use Rattle.std.proofs.lemmas.List.{flat_map_more, take_more}
use Rattle.std.proofs.lemmas.List.FromFn.{map-range_with_len_more}

range_more : (k : ℕ) → range_with_len 0 (k + 1) ≡ range_with_len 0 k ++ k ∷ []
range_more k =
    sym (map-id (range_with_len 0 (k + 1))) ∙ map-range_with_len_more (λ (x : ℕ). x) 0 k k (omega arith) ∙ ap (λ (xs : List ℕ). xs ++ k ∷ []) (map-id (range_with_len 0 k))

-- one value more of a function
pub map_grown : {X : Type 0} (f : ℕ → X) (k : ℕ) (now next : List X) → now ≡ map f (range_with_len 0 k) → next ≡ now ++ f k ∷ []
    → next ≡ map f (range_with_len 0 (k + 1))
map_grown {X} f k now next e h = h ∙ ap (λ (xs : List X). xs ++ f k ∷ []) e ∙ sym (map-range_with_len_more f 0 k k (omega arith))

-- one piece more of a function
pub rows_grown : (f : ℕ → List ℕ) (k : ℕ) (old now next : List ℕ) → now ≡ old ++ flat_map f (range_with_len 0 k) → next ≡ now ++ f k
    → next ≡ old ++ flat_map f (range_with_len 0 (k + 1))
rows_grown f k old now next e h =
    h ∙ ap (λ (xs : List ℕ). xs ++ f k) e ∙ flat_map_more f old (range_with_len 0 k) k ∙ ap (λ (xs : List ℕ). old ++ flat_map f xs) (sym (range_more k))

-- the piece of one item more
pub items_grown : {X A : Type 0} (f : X → List A) (xs : List X) (i : ℕ) (d : X) (old now next : List A) → i < length xs
    → now ≡ old ++ flat_map f (take i xs) → next ≡ now ++ f (get_or xs i d) → next ≡ old ++ flat_map f (take (i + 1) xs)
items_grown {X} {A} f xs i d old now next low e h =
    h ∙ ap (λ (ys : List A). ys ++ f (get_or xs i d)) e ∙ flat_map_more f old (take i xs) (get_or xs i d) ∙ ap (λ (ys : List X). old ++ flat_map f ys) (sym (take_more xs i d low))

-- pieces that were put one after another
pub three_on : (o x y z a b c A B C : List ℕ) → x ≡ o ++ a → y ≡ x ++ b → z ≡ y ++ c → a ≡ A → b ≡ B → c ≡ C → z ≡ o ++ ((A ++ B) ++ C)
three_on o x y z a b c A B C e f g i j k = simp (g, f, e, i, j, k, append_assoc)

pub four_on : (o x y z w a b c d A B C D : List ℕ) → x ≡ o ++ a → y ≡ x ++ b → z ≡ y ++ c → w ≡ z ++ d → a ≡ A → b ≡ B → c ≡ C → d ≡ D
    → w ≡ o ++ (((A ++ B) ++ C) ++ D)
four_on o x y z w a b c d A B C D e f g h i j k l = simp (h, g, f, e, i, j, k, l, append_assoc)
