-- Byte arrays as tables of pages.
use Rattle.std.proofs.Common.{◌≡◌, ℕ, zero, suc, ◌+◌, ◌-◌, ◌/◌, ◌%◌, ◌<◌, ◌≤◌, Bool, true, false, cond, Option, Some, None, List, ◌∷◌, length, drop, replicate, get_or, set, slice_index, slice_range, is_some, refl, sym, ap, ◌∙◌, arith, inl, inr}
use Rattle.std.specs.List.{count_by}
use Rattle.std.proofs.lemmas.Bool.{cases_eq, cases_lt}
use Rattle.std.proofs.lemmas.List.{ext_get_or, get_or_default, get_or-set_same, get_or-set_other, set-get_or, map-set, length-map, length-replicate, get_or-replicate, get_or_past, get_or-take, get_or-drop, length-take-le, length-drop}
use Rattle.std.proofs.lemmas.List.FromFn.{get_or-map-range_with_len, length-map-range_with_len}
use Rattle.std.proofs.lemmas.List.Sums.{sum_by-set, sum_by-cons, get_or-le-sum_by}
use Rattle.std.proofs.Math.ListN.{get_or-map}
use Rattle.byte_pages.specs.LittleEndian.{with_bytes}
use Rattle.byte_pages.specs.Pages.{PageState, page_count}
use Rattle.byte_pages.specs.Tables.{byte_in, byte_of, bytes_of, there_of}
use Rattle.byte_pages.proofs.Writes.{length_with}
use Rattle.byte_pages.proofs.Places.{with_below, with_inside, with_above}

pub length_bytes : (t : List (Option (List ℕ))) (n : ℕ) → length (bytes_of t n) ≡ n
length_bytes t n = length-map-range_with_len (byte_of t) 0 n

pub at_bytes : (t : List (Option (List ℕ))) (n i : ℕ) → i < n → slice_index (bytes_of t n) i ≡ byte_of t i
at_bytes t n i h = get_or-map-range_with_len (byte_of t) 0 n i i 0 h (omega arith)

-- a table stands for a list if each of its bytes is that of the list
pub same_bytes : (t : List (Option (List ℕ))) (n : ℕ) (xs : List ℕ) → length xs ≡ n → ((i : ℕ) → i < n → byte_of t i ≡ slice_index xs i) → bytes_of t n ≡ xs
same_bytes t n xs l h =
    let long = length_bytes t n in
    ext_get_or 0 (bytes_of t n) xs (long ∙ sym l) (λ i b. let k : i < n = omega (arith, long, b) in at_bytes t n i k ∙ h i k)

-- a byte of a page that is there
pub byte_here : (t : List (Option (List ℕ))) (k : ℕ) (page : Option (List ℕ)) (i : ℕ) → get_or t k None ≡ page → i / 4096 ≡ k → byte_of t i ≡ byte_in page (i % 4096)
byte_here t k page i is e = ap (λ (j : ℕ). byte_in (get_or t j None) (i % 4096)) e ∙ ap (λ (o : Option (List ℕ)). byte_in o (i % 4096)) is

-- one page is put anew
put_page : (t : List (Option (List ℕ))) (n k : ℕ) (page xs : List ℕ) → k < length t → length xs ≡ n
    → ((i : ℕ) → i < n → i / 4096 ≡ k → slice_index page (i % 4096) ≡ slice_index xs i)
    → ((i : ℕ) → i < n → (i / 4096 ≡ k → ⊥) → byte_of t i ≡ slice_index xs i)
    → bytes_of (set t k (Some page)) n ≡ xs
put_page t n k page xs inside l here there =
    same_bytes (set t k (Some page)) n xs l (λ i h. elim (cases_eq (i / 4096) k) [
      | inl e ↦ byte_here (set t k (Some page)) k (Some page) i (get_or-set_same t k (Some page) None inside) e ∙ here i h e
      | inr d ↦ ap (λ (o : Option (List ℕ)). byte_in o (i % 4096)) (get_or-set_other t k (i / 4096) (Some page) None d) ∙ there i h d
    ])

-- bytes that lie in one page are put into it
pub page_written : (t : List (Option (List ℕ))) (n at : ℕ) (old xs : List ℕ) → get_or t (at / 4096) None ≡ Some old → length old ≡ 4096 → at / 4096 < length t
    → at % 4096 + length xs ≤ 4096 → at + length xs ≤ n → bytes_of (set t (at / 4096) (Some (with_bytes old (at % 4096) xs))) n ≡ with_bytes (bytes_of t n) at xs
page_written t n at old xs is full k fits inside =
    let long = length_bytes t n in
    let room : at ≤ length (bytes_of t n) = omega (arith, long, inside) in
    let page : at % 4096 ≤ length old = omega (arith, full, fits) in
    put_page t n (at / 4096) (with_bytes old (at % 4096) xs) (with_bytes (bytes_of t n) at xs) k (length_with (bytes_of t n) at xs (omega (arith, long, inside)) ∙ long)
    (λ i h e. let same : slice_index old (i % 4096) ≡ slice_index (bytes_of t n) i = sym (at_bytes t n i h ∙ byte_here t (at / 4096) (Some old) i is e) in
    elim (cases_lt i at) [
      | inl l ↦ with_below old (at % 4096) xs (i % 4096) page (omega (arith, l, e)) ∙ same ∙ sym (with_below (bytes_of t n) at xs i room l)
      | inr l ↦ elim (cases_lt i (at + length xs)) [
        | inl m ↦ (let apart : i % 4096 - at % 4096 ≡ i - at = omega (arith, l, e) in
            with_inside old (at % 4096) xs (i % 4096) page (omega (arith, l, e)) (omega (arith, l, m, e)) ∙ ap (slice_index xs) apart ∙ sym (with_inside (bytes_of t n) at xs i room l m))
        | inr m ↦ with_above old (at % 4096) xs (i % 4096) page (omega (arith, m, e)) ∙ same ∙ sym (with_above (bytes_of t n) at xs i room m)
      ]
    ])
    (λ i h d. sym (at_bytes t n i h) ∙ elim (cases_lt i at) [
      | inl l ↦ sym (with_below (bytes_of t n) at xs i room l)
      | inr l ↦ elim (cases_lt i (at + length xs)) [
        | inl m ↦ absurd (d (omega (arith, l, m, fits)))
        | inr m ↦ sym (with_above (bytes_of t n) at xs i room m)
      ]
    ])

-- a page of zeros is made
pub page_made : (t : List (Option (List ℕ))) (n k : ℕ) (page : List ℕ) → get_or t k None ≡ None → k < length t → ((i : ℕ) → slice_index page i ≡ 0) → bytes_of (set t k (Some page)) n ≡ bytes_of t n
page_made t n k page is inside zeros =
    put_page t n k page (bytes_of t n) inside (length_bytes t n)
    (λ i h e. zeros (i % 4096) ∙ sym (at_bytes t n i h ∙ byte_here t k None i is e))
    (λ i h d. sym (at_bytes t n i h))

-- bytes that lie in one page
pub page_read : (t : List (Option (List ℕ))) (n at m : ℕ) (xs : List ℕ) → length xs ≡ m → at + m ≤ n → ((i : ℕ) → i < m → slice_index xs i ≡ byte_of t (at + i)) → xs ≡ slice_range (bytes_of t n) at (at + m)
page_read t n at m xs l inside h =
    let long = length_bytes t n in
    let e : at + m - at ≡ m = omega arith in
    let rest = length-drop at (bytes_of t n) in
    let len : length (slice_range (bytes_of t n) at (at + m)) ≡ m = length-take-le (at + m - at) (drop at (bytes_of t n)) (omega (arith, rest, long, inside)) ∙ e in
    ext_get_or 0 xs (slice_range (bytes_of t n) at (at + m)) (l ∙ sym len) (λ i b. let k : i < m = omega (arith, l, b) in
    h i k ∙ sym (get_or-take (at + m - at) (drop at (bytes_of t n)) i 0 (omega (arith, k)) ∙ get_or-drop at (bytes_of t n) i 0 ∙ at_bytes t n (at + i) (omega (arith, k, inside))))

-- which pages are there
pub length_there : (t : List (Option (List ℕ))) → length (there_of t) ≡ length t
length_there t = length-map t is_some

pub there_put : (t : List (Option (List ℕ))) (k : ℕ) (page : List ℕ) → there_of (set t k (Some page)) ≡ set (there_of t) k true
there_put t k page = map-set is_some t k (Some page)

pub there_at : (t : List (Option (List ℕ))) (k : ℕ) → get_or (there_of t) k false ≡ is_some (get_or t k None)
there_at t k = get_or-map is_some t k None

-- a page that is there stays
pub there_same : (t : List (Option (List ℕ))) (k : ℕ) (old page : List ℕ) → get_or t k None ≡ Some old → there_of (set t k (Some page)) ≡ there_of t
there_same t k old page is =
    there_put t k page ∙ ap (set (there_of t) k) (sym (there_at t k ∙ ap is_some is)) ∙ set-get_or (there_of t) k false

pub here_is_there : (t : List (Option (List ℕ))) (k : ℕ) → get_or t k None ≡ None → get_or (there_of t) k false ≡ true → ⊥
here_is_there t k is h = let e : false ≡ true = sym (there_at t k ∙ ap is_some is) ∙ h in (cc e)

-- how many are there
pub one_more : (t : List (Option (List ℕ))) (k : ℕ) (page : List ℕ) → get_or t k None ≡ None → k < length t
    → count_by (λ (b : Bool). b) (there_of (set t k (Some page))) ≡ count_by (λ (b : Bool). b) (there_of t) + 1
one_more t k page is inside =
    let put = ap (count_by (λ (b : Bool). b)) (there_put t k page) in
    let long = length_there t in
    let sum = sum_by-set (λ (b : Bool). cond b 1 0) (there_of t) k true false (omega (arith, long, inside)) in
    let none : cond {A = ℕ} (get_or (there_of t) k false) 1 0 ≡ 0 = ap (λ (b : Bool). cond b 1 0) (there_at t k ∙ ap is_some is) in
    put ∙ omega (arith, sum, none)

none_there : (b : Bool) → cond b 1 0 ≤ 0 → b ≡ false
none_there true h = absurd (omega arith)
none_there false h = refl

none_in : (o : Option (List ℕ)) (i : ℕ) → is_some o ≡ false → byte_in o i ≡ 0
none_in None i h = refl
none_in (Some page) i h = absurd (cc h)

-- where none is there all bytes are zero
pub none_is_zeros : (t : List (Option (List ℕ))) (n : ℕ) → count_by (λ (b : Bool). b) (there_of t) ≡ 0 → bytes_of t n ≡ replicate n 0
none_is_zeros t n h =
    same_bytes t n (replicate n 0) (length-replicate n 0) (λ i l.
    let none : is_some (get_or t (i / 4096) None) ≡ false = sym (there_at t (i / 4096)) ∙ elim (cases_lt (i / 4096) (length (there_of t))) [
      | inl k ↦ none_there (get_or (there_of t) (i / 4096) false) (let le = get_or-le-sum_by (λ (b : Bool). cond b 1 0) (there_of t) (i / 4096) false k in omega (arith, le, h))
      | inr k ↦ get_or_past (there_of t) (i / 4096) false k
    ] in
    none_in (get_or t (i / 4096) None) (i % 4096) none ∙ sym (get_or-replicate n i 0 0 l))

-- the entry of a byte within the array
pub in_table : (t : List (Option (List ℕ))) (n at : ℕ) → length t ≡ (n + 4095) / 4096 → at < n → at / 4096 < length t
in_table t n at e h = omega (arith, e, h)

pub entry : (t : List (Option (List ℕ))) (k : ℕ) (x : Option (List ℕ)) → k < length t → x ≡ get_or t k x → get_or t k None ≡ x
entry t k x h e = get_or_default t k None x h ∙ sym e

pub byte_found : (t : List (Option (List ℕ))) (n at : ℕ) (x : Option (List ℕ)) → at < n → get_or t (at / 4096) None ≡ x → byte_in x (at % 4096) ≡ slice_index (bytes_of t n) at
byte_found t n at x h is = sym (at_bytes t n at h ∙ byte_here t (at / 4096) x at is refl)

-- what is known of a place in the list that a table stands for
pub within : (t : List (Option (List ℕ))) (n : ℕ) (bytes : List ℕ) (i : ℕ) → bytes_of t n ≡ bytes → i ≤ length bytes → i ≤ n
within t n bytes i e h = let long = length_bytes t n in let same = ap (length {A = ℕ}) e in omega (arith, long, same, h)

-- no page is there at first
pub new_count : (n : ℕ) → count_by (λ (b : Bool). b) (replicate n false) ≡ 0
new_count zero = refl
new_count (suc n) = let more = sum_by-cons (λ (b : Bool). cond b 1 0) false (replicate n false) in let rest = new_count n in omega (arith, more, rest)

pub all_count : (n : ℕ) → count_by (λ (b : Bool). b) (replicate n true) ≡ n
all_count zero = refl
all_count (suc n) = let more = sum_by-cons (λ (b : Bool). cond b 1 0) true (replicate n true) in let rest = all_count n in omega (arith, more, rest)

pub new_there : (n : ℕ) → there_of (replicate n None) ≡ replicate n false
new_there zero = refl
new_there (suc n) = ap (λ (b : List Bool). false ∷ b) (new_there n)

pub new_bytes : (n len : ℕ) → bytes_of (replicate n None) len ≡ replicate len 0
new_bytes n len = none_is_zeros (replicate n None) len (ap (count_by (λ (b : Bool). b)) (new_there n) ∙ new_count n)

pub none_is : (o : Option (List ℕ)) → is_some o ≡ false → o ≡ None
none_is None h = refl
none_is (Some page) h = absurd (cc h)

-- to make a page that is there changes nothing
pub there_already : (t : List (Option (List ℕ))) (there : List Bool) (k : ℕ) → there_of t ≡ there → is_some (get_or t k None) ≡ true → there ≡ set there k true
there_already t there k e h = sym (ap (set there k) (sym (ap (λ (b : List Bool). get_or b k false) (sym e) ∙ there_at t k ∙ h)) ∙ set-get_or there k false)

-- a range that lies in one page
pub page_slice : (t : List (Option (List ℕ))) (n at m : ℕ) (page : List ℕ) → get_or t (at / 4096) None ≡ Some page → length page ≡ 4096 → at + m ≤ n → at % 4096 + m ≤ 4096
    → slice_range page (at % 4096) (at % 4096 + m) ≡ slice_range (bytes_of t n) at (at + m)
page_slice t n at m page is full inside fits =
    let o : ℕ = at % 4096 in
    let e : o + m - o ≡ m = omega arith in
    let rest = length-drop o page in
    let long : length (slice_range page o (o + m)) ≡ m = length-take-le (o + m - o) (drop o page) (omega (arith, rest, full, fits, e)) ∙ e in
    page_read t n at m (slice_range page o (o + m)) long inside (λ i h.
    let k : (at + i) / 4096 ≡ at / 4096 = omega (arith, h, fits) in
    let r : o + i ≡ (at + i) % 4096 = omega (arith, h, fits) in
    get_or-take (o + m - o) (drop o page) i 0 (omega (arith, h, e)) ∙ get_or-drop o page i 0 ∙ ap (slice_index page) r ∙ sym (byte_here t (at / 4096) (Some page) (at + i) is k))

pub zeros_slice : (t : List (Option (List ℕ))) (n at m : ℕ) (xs : List ℕ) → get_or t (at / 4096) None ≡ None → xs ≡ replicate m 0 → at + m ≤ n → at % 4096 + m ≤ 4096 → xs ≡ slice_range (bytes_of t n) at (at + m)
zeros_slice t n at m xs is zeros inside fits =
    page_read t n at m xs (ap (length {A = ℕ}) zeros ∙ length-replicate m 0) inside (λ i h.
    let k : (at + i) / 4096 ≡ at / 4096 = omega (arith, h, fits) in
    ap (λ (b : List ℕ). slice_index b i) zeros ∙ get_or-replicate m i 0 0 h ∙ sym (byte_here t (at / 4096) None (at + i) is k))

pub new_state : (t : List (Option (List ℕ))) (n len : ℕ) → t ≡ replicate n None → n ≡ page_count len
    → ◌≡◌ {A = PageState} (record { bytes = bytes_of t len; there = there_of t }) (record { bytes = replicate len 0; there = replicate (page_count len) false })
new_state t n len e count =
    let state : List ℕ → List Bool → PageState = λ x y. record { bytes = x; there = y } in
    ap (λ (x : List ℕ). state x (there_of t)) (ap (λ (u : List (Option (List ℕ))). bytes_of u len) e ∙ new_bytes n len)
    ∙ ap (state (replicate len 0)) (ap there_of e ∙ new_there n ∙ ap (λ (k : ℕ). replicate k false) count)
