-- The search of the table, by the word's fields.
use Rattle.std.proofs.Common.{◌≡◌, ℕ, ◌<◌, ◌+◌, ◌*◌, ◌/◌, ◌%◌, ◌^◌, Bool, true, false, nat_lt, ◌≢◌, eqb, cond, List, [], ◌∷◌, Option, Some, None, refl, sym, ◌∙◌, ap, arith, bit_and, ◌⊎◌, inl, inr}
use Rattle.std.proofs.lemmas.Nat.{and_mask, and_block, field_of, shr_split, mod-mul-add, div-mul-add}
use Rattle.std.proofs.lemmas.Bool.{false≢true}
use Rattle.std.proofs.lemmas.Bool.Decides.{eqb_tells}
use Rattle.std.proofs.Math.Pow.{mod-mod-pow, shr_mod}
use Rattle.rv_word.specs.declared.op.Op.{Op}
use Rattle.rv_word.specs.Table.{Row, search, table}

-- the fields that the masks let through
mask_7f : (w : ℕ) → bit_and w 0x7f ≡ w % 2 ^ 7
mask_7f w = and_mask w 7

mask_707f : (w : ℕ) → bit_and w 0x707f ≡ w / 2 ^ 12 % 2 ^ 3 * 2 ^ 12 + w % 2 ^ 7
mask_707f w =
    let split : w / 2 ^ 12 * 2 ^ 12 + w % 2 ^ 12 ≡ w = shr_split w 12 in
    let blocks : bit_and (w / 2 ^ 12 * 2 ^ 12 + w % 2 ^ 12) (7 * 2 ^ 12 + 127) ≡ bit_and (w / 2 ^ 12) 7 * 2 ^ 12 + bit_and (w % 2 ^ 12) 127 = and_block 12 (w / 2 ^ 12) 7 (w % 2 ^ 12) 127 (omega arith) (omega arith) in
    let high : bit_and (w / 2 ^ 12) 7 ≡ w / 2 ^ 12 % 2 ^ 3 = and_mask (w / 2 ^ 12) 3 in
    let low : bit_and (w % 2 ^ 12) 127 ≡ w % 2 ^ 12 % 2 ^ 7 = and_mask (w % 2 ^ 12) 7 in
    let short : w % 2 ^ 12 % 2 ^ 7 ≡ w % 2 ^ 7 = mod-mod-pow w 5 7 in
    ap (λ n. bit_and n 0x707f) (sym split) ∙ blocks ∙ rw (high, low, short) refl

mask_fe00707f : (w : ℕ) → w < 2 ^ 32 → bit_and w 0xfe00707f ≡ w / 2 ^ 25 * 2 ^ 25 + (w / 2 ^ 12 % 2 ^ 3 * 2 ^ 12 + w % 2 ^ 7)
mask_fe00707f w h =
    let split : w / 2 ^ 25 * 2 ^ 25 + w % 2 ^ 25 ≡ w = shr_split w 25 in
    let blocks : bit_and (w / 2 ^ 25 * 2 ^ 25 + w % 2 ^ 25) (127 * 2 ^ 25 + 0x707f) ≡ bit_and (w / 2 ^ 25) 127 * 2 ^ 25 + bit_and (w % 2 ^ 25) 0x707f = and_block 25 (w / 2 ^ 25) 127 (w % 2 ^ 25) 0x707f (omega arith) (omega arith) in
    let high : bit_and (w / 2 ^ 25) 127 ≡ w / 2 ^ 25 % 2 ^ 7 = and_mask (w / 2 ^ 25) 7 in
    let whole : w / 2 ^ 25 % 2 ^ 7 ≡ w / 2 ^ 25 = shr_mod 7 25 h in
    let low : bit_and (w % 2 ^ 25) 0x707f ≡ w % 2 ^ 25 / 2 ^ 12 % 2 ^ 3 * 2 ^ 12 + w % 2 ^ 25 % 2 ^ 7 = mask_707f (w % 2 ^ 25) in
    let mid : w % 2 ^ 25 / 2 ^ 12 ≡ w / 2 ^ 12 % 2 ^ 13 = field_of w 13 12 in
    let mid2 : w / 2 ^ 12 % 2 ^ 13 % 2 ^ 3 ≡ w / 2 ^ 12 % 2 ^ 3 = mod-mod-pow (w / 2 ^ 12) 10 3 in
    let short : w % 2 ^ 25 % 2 ^ 7 ≡ w % 2 ^ 7 = mod-mod-pow w 18 7 in
    ap (λ n. bit_and n 0xfe00707f) (sym split) ∙ blocks ∙ rw (high, whole, low, mid, mid2, short) refl

mask_all : (w : ℕ) → w < 2 ^ 32 → bit_and w 0xffffffff ≡ w
mask_all w h = and_mask w 32 ∙ omega arith

parts_same : (k a b c d : ℕ) → b < k → d < k → eqb (a * k + b) (c * k + d) ≡ true → a * k + b ≡ c * k + d → ((eqb b d ≡ true) × (b ≡ d)) ⊎ ((eqb b d ≡ false) × (b ≢ d)) → ((eqb a c ≡ true) × (a ≡ c)) ⊎ ((eqb a c ≡ false) × (a ≢ c)) → eqb (a * k + b) (c * k + d) ≡ cond (eqb b d) (eqb a c) false
parts_same k a b c d h1 h2 t e (inl (p, q)) (inl (r, u)) = rw (t, p, r) refl
parts_same k a b c d h1 h2 t e (inr (p, q)) y = absurd (q (sym (mod-mul-add a k b h1) ∙ ap (λ n. n % k) e ∙ mod-mul-add c k d h2))
parts_same k a b c d h1 h2 t e (inl p) (inr (r, u)) = absurd (u (sym (div-mul-add a k b h1) ∙ ap (λ n. n / k) e ∙ div-mul-add c k d h2))

parts_other : (k a b c d : ℕ) → eqb (a * k + b) (c * k + d) ≡ false → (a * k + b ≢ c * k + d) → ((eqb b d ≡ true) × (b ≡ d)) ⊎ ((eqb b d ≡ false) × (b ≢ d)) → ((eqb a c ≡ true) × (a ≡ c)) ⊎ ((eqb a c ≡ false) × (a ≢ c)) → eqb (a * k + b) (c * k + d) ≡ cond (eqb b d) (eqb a c) false
parts_other k a b c d t e (inl (p, q)) (inl (r, u)) = absurd (e (rw (q, u) refl))
parts_other k a b c d t e (inr (p, q)) y = rw (t, p) refl
parts_other k a b c d t e (inl (p, q)) (inr (r, u)) = rw (t, p, r) refl

-- two numbers of two parts are equal exactly where the parts are
eqb_parts : (k a b c d : ℕ) → b < k → d < k → eqb (a * k + b) (c * k + d) ≡ cond (eqb b d) (eqb a c) false
eqb_parts k a b c d h1 h2 =
    elim (eqb_tells (a * k + b) (c * k + d)) [
      | inl (t, e) ↦ parts_same k a b c d h1 h2 t e (eqb_tells b d) (eqb_tells a c)
      | inr (t, e) ↦ parts_other k a b c d t e (eqb_tells b d) (eqb_tells a c)
    ]

-- a row's test, on the fields
abbrev pub hits_op : ℕ → ℕ → Bool
hits_op v op = eqb op (v % 2 ^ 7)

abbrev pub hits : ℕ → ℕ → ℕ → ℕ → ℕ → ℕ → Bool
hits mask v op f3 f7 w =
    cond (eqb op (v % 2 ^ 7))
    (cond (eqb mask 0x7f) true
    (cond (eqb mask 0x707f) (eqb f3 (v / 2 ^ 12 % 2 ^ 3))
    (cond (eqb mask 0xfe00707f) (cond (eqb f3 (v / 2 ^ 12 % 2 ^ 3)) (eqb f7 (v / 2 ^ 25)) false)
    (cond (eqb f3 (v / 2 ^ 12 % 2 ^ 3)) (eqb w v) false))))
    false

-- the search by fields
unfoldable pub found : List Row → ℕ → ℕ → ℕ → ℕ → Option Op
found [] op f3 f7 w = None
found (r ∷ rs) op f3 f7 w = cond (hits r.mask r.value op f3 f7 w) (Some (r.reads w)) (found rs op f3 f7 w)

-- a row's mask is one of four, and its value lies under it
RowOk : ℕ → ℕ → Type 0
RowOk mask v = (v < 2 ^ 32) × (bit_and v mask ≡ v) × ((mask ≡ 0x7f) ⊎ ((mask ≡ 0x707f) ⊎ ((mask ≡ 0xfe00707f) ⊎ (mask ≡ 0xffffffff))))

is_row : ℕ → ℕ → Bool
is_row mask v = cond (nat_lt v (2 ^ 32)) (cond (eqb (bit_and v mask) v) (cond (eqb mask 0x7f) true (cond (eqb mask 0x707f) true (cond (eqb mask 0xfe00707f) true (eqb mask 0xffffffff)))) false) false

Tells : ℕ → ℕ → Type 0
Tells a b = ((eqb a b ≡ true) × (a ≡ b)) ⊎ ((eqb a b ≡ false) × (a ≢ b))

row_ok_cases : (mask v : ℕ) → Tells (bit_and v mask) v → Tells mask 0x7f → Tells mask 0x707f → Tells mask 0xfe00707f → Tells mask 0xffffffff → is_row mask v ≡ true → RowOk mask v
unfolding is_row RowOk Tells
row_ok_cases mask v a b c d f e = grind arith

row_ok : (mask v : ℕ) → is_row mask v ≡ true → RowOk mask v
unfolding is_row RowOk Tells
row_ok mask v e = row_ok_cases mask v (eqb_tells (bit_and v mask) v) (eqb_tells mask 0x7f) (eqb_tells mask 0x707f) (eqb_tells mask 0xfe00707f) (eqb_tells mask 0xffffffff) e

all_rows : List Row → Bool
all_rows [] = true
all_rows (r ∷ rs) = cond (is_row r.mask r.value) (all_rows rs) false

cond_id : (b : Bool) → b ≡ cond b true false
cond_id true = refl
cond_id false = refl

cond_both : (a b c : Bool) → cond (cond a b false) c false ≡ cond a (cond b c false) false
cond_both true b c = refl
cond_both false b c = refl

hits_7f : (v w : ℕ) → bit_and v 0x7f ≡ v → eqb (bit_and w 0x7f) v ≡ hits 0x7f v (w % 2 ^ 7) (w / 2 ^ 12 % 2 ^ 3) (w / 2 ^ 25) w
hits_7f v w b =
    let e : v % 2 ^ 7 ≡ v = sym (mask_7f v) ∙ b in
    ap (λ n. eqb n v) (mask_7f w) ∙ rw e (cond_id (eqb (w % 2 ^ 7) v))

hits_707f : (v w : ℕ) → bit_and v 0x707f ≡ v → eqb (bit_and w 0x707f) v ≡ hits 0x707f v (w % 2 ^ 7) (w / 2 ^ 12 % 2 ^ 3) (w / 2 ^ 25) w
hits_707f v w b =
    ap (λ n. eqb n v) (mask_707f w) ∙ ap (λ n. eqb (w / 2 ^ 12 % 2 ^ 3 * 2 ^ 12 + w % 2 ^ 7) n) (sym b ∙ mask_707f v)
    ∙ eqb_parts (2 ^ 12) (w / 2 ^ 12 % 2 ^ 3) (w % 2 ^ 7) (v / 2 ^ 12 % 2 ^ 3) (v % 2 ^ 7) (omega arith) (omega arith)

hits_fe : (v w : ℕ) → v < 2 ^ 32 → w < 2 ^ 32 → bit_and v 0xfe00707f ≡ v → eqb (bit_and w 0xfe00707f) v ≡ hits 0xfe00707f v (w % 2 ^ 7) (w / 2 ^ 12 % 2 ^ 3) (w / 2 ^ 25) w
hits_fe v w hv hw b =
    ap (λ n. eqb n v) (mask_fe00707f w hw) ∙ ap (λ n. eqb (w / 2 ^ 25 * 2 ^ 25 + (w / 2 ^ 12 % 2 ^ 3 * 2 ^ 12 + w % 2 ^ 7)) n) (sym b ∙ mask_fe00707f v hv)
    ∙ eqb_parts (2 ^ 25) (w / 2 ^ 25) (w / 2 ^ 12 % 2 ^ 3 * 2 ^ 12 + w % 2 ^ 7) (v / 2 ^ 25) (v / 2 ^ 12 % 2 ^ 3 * 2 ^ 12 + v % 2 ^ 7) (omega arith) (omega arith)
    ∙ ap (λ t. cond t (eqb (w / 2 ^ 25) (v / 2 ^ 25)) false) (eqb_parts (2 ^ 12) (w / 2 ^ 12 % 2 ^ 3) (w % 2 ^ 7) (v / 2 ^ 12 % 2 ^ 3) (v % 2 ^ 7) (omega arith) (omega arith))
    ∙ cond_both (eqb (w % 2 ^ 7) (v % 2 ^ 7)) (eqb (w / 2 ^ 12 % 2 ^ 3) (v / 2 ^ 12 % 2 ^ 3)) (eqb (w / 2 ^ 25) (v / 2 ^ 25))

-- equal words have equal fields
same_field : (g : ℕ → ℕ) (v w : ℕ) → Tells w v → Tells (g w) (g v) → eqb w v ≡ cond (eqb (g w) (g v)) (eqb w v) false
unfolding Tells
same_field g v w (inl (p, q)) (inl (r, u)) = rw r refl
same_field g v w (inr (p, q)) (inl (r, u)) = rw r refl
same_field g v w (inr (p, q)) (inr (r, u)) = rw (p, r) refl
same_field g v w (inl (p, q)) (inr (r, u)) = absurd (u (ap g q))

tells : (a b : ℕ) → Tells a b
unfolding Tells
tells a b = eqb_tells a b

hits_all : (v w : ℕ) → w < 2 ^ 32 → eqb (bit_and w 0xffffffff) v ≡ hits 0xffffffff v (w % 2 ^ 7) (w / 2 ^ 12 % 2 ^ 3) (w / 2 ^ 25) w
hits_all v w h =
    ap (λ n. eqb n v) (mask_all w h)
    ∙ same_field (λ n. n % 2 ^ 7) v w (tells w v) (tells (w % 2 ^ 7) (v % 2 ^ 7))
    ∙ ap (λ t. cond (eqb (w % 2 ^ 7) (v % 2 ^ 7)) t false) (same_field (λ n. n / 2 ^ 12 % 2 ^ 3) v w (tells w v) (tells (w / 2 ^ 12 % 2 ^ 3) (v / 2 ^ 12 % 2 ^ 3)))

hits_is : (mask v w : ℕ) → RowOk mask v → w < 2 ^ 32 → eqb (bit_and w mask) v ≡ hits mask v (w % 2 ^ 7) (w / 2 ^ 12 % 2 ^ 3) (w / 2 ^ 25) w
unfolding RowOk
hits_is mask v w (a, b, inl e) h = rw e (hits_7f v w (rw e at b))
hits_is mask v w (a, b, inr (inl e)) h = rw e (hits_707f v w (rw e at b))
hits_is mask v w (a, b, inr (inr (inl e))) h = rw e (hits_fe v w a h (rw e at b))
hits_is mask v w (a, b, inr (inr (inr e))) h = rw e (hits_all v w h)

-- both tests of a list's first row
first_ok : (b c : Bool) → cond b c false ≡ true → (b ≡ true) × (c ≡ true)
first_ok true c e = (refl, e)
first_ok false c e = absurd (false≢true e)

search_is : (rs : List Row) (w : ℕ) → all_rows rs ≡ true → w < 2 ^ 32 → search rs w ≡ found rs (w % 2 ^ 7) (w / 2 ^ 12 % 2 ^ 3) (w / 2 ^ 25) w
unfolding search found all_rows
search_is [] w ok h = refl
search_is (r ∷ rs) w ok h =
    let both : (is_row r.mask r.value ≡ true) × (all_rows rs ≡ true) = first_ok _ _ ok in
    let here : eqb (bit_and w r.mask) r.value ≡ hits r.mask r.value (w % 2 ^ 7) (w / 2 ^ 12 % 2 ^ 3) (w / 2 ^ 25) w = hits_is r.mask r.value w (row_ok r.mask r.value both.0) h in
    let rest : search rs w ≡ found rs (w % 2 ^ 7) (w / 2 ^ 12 % 2 ^ 3) (w / 2 ^ 25) w = search_is rs w both.1 h in
    ap (λ b. cond b (Some (r.reads w)) (search rs w)) here ∙ ap (λ t. cond (hits r.mask r.value (w % 2 ^ 7) (w / 2 ^ 12 % 2 ^ 3) (w / 2 ^ 25) w) (Some (r.reads w)) t) rest

table_ok : all_rows table ≡ true
unfolding all_rows is_row table
table_ok = refl

pub found_at : (w op f3 f7 : ℕ) → w < 2 ^ 32 → w % 128 ≡ op → w / 2 ^ 12 % 8 ≡ f3 → w / 2 ^ 25 ≡ f7 → search table w ≡ found table op f3 f7 w
found_at w op f3 f7 h a b c = search_is table w table_ok h ∙ rw (a, b, c) refl
