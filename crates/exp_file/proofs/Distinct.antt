-- What stays right as one more item is put at the end: names, disks of a guest, ends at a nic.
use Rattle.std.proofs.Common.{◌≡◌, ◌==◌, ℕ, ◌≤◌, ◌<◌, ◌+◌, ◌&&◌, ◌||◌, Bool, true, false, List, [], ◌∷◌, ◌++◌, map, cond, subst, sym, refl, ◌∙◌, arith}
use Rattle.std.proofs.lemmas.Bool.Decides.{nat_tests}
use Rattle.std.proofs.lemmas.List.Sums.{sum_by-append, sum_by-cons}
use Rattle.std.proofs.lemmas.Slice.Eq.{bytes_eq-Decides}
use Rattle.std.specs.List.{IsDistinct, AllByRecursion, list_any, count_by}
use Rattle.std.specs.Str.{bytes_eq}
use Rattle.exp_file.specs.declared.guest_spec.GuestSpec.{GuestSpec}
use Rattle.exp_file.specs.declared.disk_spec.DiskSpec.{DiskSpec}
use Rattle.exp_file.specs.declared.link_spec.LinkSpec.{LinkSpec}
use Rattle.exp_file.specs.Tables.{is_named}
use Rattle.exp_file.specs.Disks.{disks_of}
use Rattle.exp_file.specs.Links.{is_used, ends_at}
use Rattle.exp_file.specs.WellFormed.{IsFree}

or_left : (a b : Bool) → (a || b) ≡ false → a ≡ false
or_left false b h = refl
or_left true b h = h

or_right : (a b : Bool) → (a || b) ≡ false → b ≡ false
or_right false b h = h
or_right true b h = absurd (cc)

same_bool : (a b : Bool) → (a ≡ true → b ≡ true) → (b ≡ true → a ≡ true) → a ≡ b
same_bool true b h k = sym (h refl)
same_bool false true h k = k refl
same_bool false false h k = refl

bytes_sym : (x y : List ℕ) → bytes_eq x y ≡ bytes_eq y x
bytes_sym x y = same_bool (bytes_eq x y) (bytes_eq y x)
    (λ h. (bytes_eq-Decides y x).1 (sym ((bytes_eq-Decides x y).0 h)))
    (λ h. (bytes_eq-Decides x y).1 (sym ((bytes_eq-Decides y x).0 h)))

abbrev names : List GuestSpec → List (List ℕ)
names gs = map (λ g. g.name) gs

apart_push : (x : List ℕ) (gs : List GuestSpec) (g : GuestSpec) → AllByRecursion (λ y. bytes_eq x y ≡ false) (names gs) → bytes_eq x g.name ≡ false
    → AllByRecursion (λ y. bytes_eq x y ≡ false) (names (gs ++ g ∷ []))
apart_push x [] g all apart = (apart, tt)
apart_push x (h ∷ gs) g all apart = (all.0, apart_push x gs g all.1 apart)

pub names_more : (gs : List GuestSpec) (g : GuestSpec) → IsDistinct bytes_eq (names gs) → is_named g.name gs ≡ false → IsDistinct bytes_eq (names (gs ++ g ∷ []))
unfolding IsDistinct
names_more [] g d new = (tt, tt)
names_more (x ∷ gs) g d new = (
  apart_push x.name gs g d.0 (bytes_sym x.name g.name ∙ or_left (bytes_eq g.name x.name) (is_named g.name gs) new),
  names_more gs g d.1 (or_right (bytes_eq g.name x.name) (is_named g.name gs) new),
)

count_push : {A : Type 0} (p : A → Bool) (xs : List A) (x : A) → count_by p (xs ++ x ∷ []) ≡ count_by p xs + cond (p x) 1 0
count_push p xs x =
    let more : count_by p (xs ++ x ∷ []) ≡ count_by p xs + count_by p (x ∷ []) = sum_by-append (λ y. cond (p y) 1 0) xs (x ∷ []) in
    let one : count_by p (x ∷ []) ≡ 0 + cond (p x) 1 0 = refl in
    omega arith

one_more : (t : Bool) (n : ℕ) → n ≤ 2 → (t ≡ true → n < 2) → n + cond t 1 0 ≤ 2
one_more true n low room = let less : n < 2 = room refl in omega arith
one_more false n low room = omega arith

pub two_more : (ds : List DiskSpec) (d : DiskSpec) (g : ℕ) → disks_of g ds ≤ 2 → disks_of d.guest ds < 2 → disks_of g (ds ++ d ∷ []) ≤ 2
two_more ds d g two room =
    rw (count_push (λ x. x.guest == g) ds d) (one_more (d.guest == g) (disks_of g ds) two
    (λ h. let same : d.guest ≡ g = grind (arith, nat_tests) in subst (λ z. disks_of z ds < 2) same room))

uncounted : (t : Bool) → t ≡ false → cond {A = ℕ} t 1 0 ≡ 0
uncounted false h = refl
uncounted true h = absurd (cc)

none_at : (p q : LinkSpec → Bool) (ls : List LinkSpec) → list_any (λ l. p l || q l) ls ≡ false → count_by p ls + count_by q ls ≡ 0
none_at p q [] h = refl
none_at p q (l ∷ ls) h =
    let here : (p l || q l) ≡ false = or_left (p l || q l) (list_any (λ x. p x || q x) ls) h in
    let rest : count_by p ls + count_by q ls ≡ 0 = none_at p q ls (or_right (p l || q l) (list_any (λ x. p x || q x) ls) h) in
    let left : count_by p (l ∷ ls) ≡ cond (p l) 1 0 + count_by p ls = sum_by-cons (λ x. cond (p x) 1 0) l ls in
    let right : count_by q (l ∷ ls) ≡ cond (q l) 1 0 + count_by q ls = sum_by-cons (λ x. cond (q x) 1 0) l ls in
    let no_left = uncounted (p l) (or_left (p l) (q l) here) in
    let no_right = uncounted (q l) (or_right (p l) (q l) here) in
    omega (arith, rest, left, right, no_left, no_right)

unused : (ls : List LinkSpec) (g nic : ℕ) → is_used ls g nic ≡ false → ends_at g nic ls ≡ 0
unused ls g nic h = none_at (λ l. l.a == g && l.a_nic == nic) (λ l. l.b == g && l.b_nic == nic) ls h

same_nic : (x y g nic : ℕ) → (x == g && y == nic) ≡ true → (x ≡ g) × (y ≡ nic)
same_nic x y g nic h = (grind (arith, nat_tests), grind (arith, nat_tests))

ends_more : (ls : List LinkSpec) (l : LinkSpec) (g nic : ℕ) → ends_at g nic (ls ++ l ∷ []) ≡ ends_at g nic ls + (cond (l.a == g && l.a_nic == nic) 1 0 + cond (l.b == g && l.b_nic == nic) 1 0)
ends_more ls l g nic =
    let left = count_push (λ (x : LinkSpec). x.a == g && x.a_nic == nic) ls l in
    let right = count_push (λ (x : LinkSpec). x.b == g && x.b_nic == nic) ls l in
    omega (arith, left, right)

-- at most one end stands at a nic, whichever of the new two may be there
one_end : (n : ℕ) (a b : Bool) → n ≤ 1 → (a ≡ true → n ≡ 0) → (b ≡ true → n ≡ 0) → (a ≡ true → b ≡ false) → n + (cond a 1 0 + cond b 1 0) ≤ 1
one_end n true true low left right apart = absurd (let no : true ≡ false = apart refl in cc)
one_end n true false low left right apart = let none : n ≡ 0 = left refl in omega arith
one_end n false true low left right apart = let none : n ≡ 0 = right refl in omega arith
one_end n false false low left right apart = omega arith

not_both : (l : LinkSpec) (g nic : ℕ) (b : Bool) → (l.a == l.b && l.a_nic == l.b_nic) ≡ false → (l.a == g && l.a_nic == nic) ≡ true → (l.b == g && l.b_nic == nic) ≡ b → b ≡ false
not_both l g nic false apart here there = refl
not_both l g nic true apart here there =
    let first = same_nic l.a l.a_nic g nic here in
    let second = same_nic l.b l.b_nic g nic there in
    let guests : l.a ≡ l.b = first.0 ∙ sym second.0 in
    let nics : l.a_nic ≡ l.b_nic = first.1 ∙ sym second.1 in
    absurd (let no : (l.a == l.b && l.a_nic == l.b_nic) ≡ true = grind (arith, nat_tests) in cc)

pub one_end_more : (ls : List LinkSpec) (l : LinkSpec) (g nic : ℕ) → ends_at g nic ls ≤ 1 → IsFree ls l → ends_at g nic (ls ++ l ∷ []) ≤ 1
one_end_more ls l g nic one free =
    rw (ends_more ls l g nic) (one_end (ends_at g nic ls) (l.a == g && l.a_nic == nic) (l.b == g && l.b_nic == nic) one
    (λ h. let same = same_nic l.a l.a_nic g nic h in unused ls g nic (subst (λ z. is_used ls z nic ≡ false) same.0 (subst (λ z. is_used ls l.a z ≡ false) same.1 free.a)))
    (λ h. let same = same_nic l.b l.b_nic g nic h in unused ls g nic (subst (λ z. is_used ls z nic ≡ false) same.0 (subst (λ z. is_used ls l.b z ≡ false) same.1 free.b)))
    (λ h. not_both l g nic (l.b == g && l.b_nic == nic) free.apart h refl))
