-- The disks of guests: one more, their limits, and how many there are.
use Rattle.std.proofs.Common.{◌≡◌, ◌==◌, ℕ, zero, suc, ◌+◌, ◌<◌, ◌≤◌, Bool, true, false, cond, inl, inr, List, [], ◌∷◌, ◌++◌, map, replicate, set, get_or, length, All, Some, refl, sym, ap, ◌∙◌, arith}
use Rattle.std.specs.Prelude.{slice_get}
use Rattle.std.proofs.lemmas.Bool.{cases_eq, eq-eqb, ne_eqb}
use Rattle.std.specs.declared.vec.Vec.{Vec}
use Rattle.std.proofs.lemmas.List.{append-nil, get_or-map, get_or-set_same, get_or-set_other, map-set, length-map}
use Rattle.std.proofs.lemmas.List.Elements.{All-nil, All-cons, All-head, All-tail}
use Rattle.std.proofs.lemmas.List.Sums.{sum_by-cons, count_by-le-length}
use Rattle.dev_face.specs.States.{IsInLimits, config_kind}
use Rattle.dev_face.specs.declared.config.DevConfig.{DevConfig}
use Rattle.dev_face.specs.declared.kind.Kind.TheVariants as kind
use Rattle.exp_file.specs.Disks.{disks_of}
use Rattle.exp_file.specs.WellFormed.{IsDisk}
use Rattle.exp_file.specs.declared.disk_spec.DiskSpec.{DiskSpec}
use Rattle.bench_build.specs.Answers.{Fills}
use Rattle.bench_build.specs.Setups.{disk_config, disk_configs}
use Rattle.bench_build.specs.Stocks.{items_of}
use Rattle.bench_build.specs.Takings.{AreDisks, disks_at}

-- what is said of a choice
pub pick : {A : Type 0} (P : A → Type 0) (t : Bool) (x y : A) → (t ≡ true → P x) → (t ≡ false → P y) → P (cond t x y)
pick P true x y f h = f refl
pick P false x y f h = h refl

-- one disk more is the next of its guest
after_one : (t u : Bool) (x : DevConfig) (last : ℕ → DevConfig) (n : ℕ) (xs ys more others : List DevConfig) → more ≡ xs ++ cond u (last (n + 1 + length xs) ∷ []) [] →
    others ≡ ys ++ cond u (last (n + length ys) ∷ []) [] → cond t (x ∷ more) others ≡ cond t (x ∷ xs) ys ++ cond u (last (n + length (cond t (x ∷ xs) ys)) ∷ []) []
after_one true u x last n xs ys more others e f =
    let same : n + 1 + length xs ≡ n + suc (length xs) = omega arith in
    ap (λ zs. x ∷ zs) e ∙ ap (λ k. x ∷ (xs ++ cond u (last k ∷ []) [])) same
after_one false u x last n xs ys more others e f = f

pub disks_push : (g n : ℕ) (ds : List DiskSpec) (bs : List (List ℕ)) (d : DiskSpec) (b : List ℕ) → length ds ≡ length bs →
    disk_configs g n (ds ++ d ∷ []) (bs ++ b ∷ [])
    ≡ disk_configs g n ds bs ++ cond (d.guest == g) (disk_config d b (n + length (disk_configs g n ds bs)) ∷ []) []
disks_push g n [] [] d b e = let same : n ≡ n + 0 = omega arith in ap (λ k. cond (d.guest == g) (disk_config d b k ∷ []) []) same
disks_push g n [] (c ∷ bs) d b e = absurd (omega (arith, e))
disks_push g n (h ∷ ds) [] d b e = absurd (omega (arith, e))
disks_push g n (h ∷ ds) (c ∷ bs) d b e =
    after_one (h.guest == g) (d.guest == g) (disk_config h c n) (disk_config d b) n (disk_configs g (n + 1) ds bs) (disk_configs g n ds bs)
    (disk_configs g (n + 1) (ds ++ d ∷ []) (bs ++ b ∷ [])) (disk_configs g n (ds ++ d ∷ []) (bs ++ b ∷ []))
    (disks_push g (n + 1) ds bs d b (omega (arith, e))) (disks_push g n ds bs d b (omega (arith, e)))

-- a count by its first item
pub count_first : (g : ℕ) (d : DiskSpec) (ds : List DiskSpec) → disks_of g (d ∷ ds) ≡ cond (d.guest == g) 1 0 + disks_of g ds
count_first g d ds = sum_by-cons (λ (x : DiskSpec). cond (x.guest == g) 1 0) d ds

count_yes : (g : ℕ) (d : DiskSpec) (ds : List DiskSpec) → (d.guest == g) ≡ true → disks_of g (d ∷ ds) ≡ 1 + disks_of g ds
count_yes g d ds e = count_first g d ds ∙ ap (λ t. cond t 1 0 + disks_of g ds) e

count_no : (g : ℕ) (d : DiskSpec) (ds : List DiskSpec) → (d.guest == g) ≡ false → disks_of g (d ∷ ds) ≡ disks_of g ds
count_no g d ds e = count_first g d ds ∙ ap (λ t. cond t 1 0 + disks_of g ds) e ∙ omega arith

-- no guest has more configurations than disks
pub disks_length : (g n : ℕ) (ds : List DiskSpec) (bs : List (List ℕ)) → length (disk_configs g n ds bs) ≤ disks_of g ds
disks_length g n [] bs = omega arith
disks_length g n (d ∷ ds) [] = omega arith
disks_length g n (d ∷ ds) (b ∷ bs) =
    pick (λ cs. length cs ≤ disks_of g (d ∷ ds)) (d.guest == g) (disk_config d b n ∷ disk_configs g (n + 1) ds bs) (disk_configs g n ds bs)
    (λ yes. omega (arith, count_yes g d ds yes, disks_length g (n + 1) ds bs))
    (λ no. omega (arith, count_no g d ds no, disks_length g n ds bs))

-- where each disk has a content, it has as many
pub disks_count : (g n : ℕ) (ds : List DiskSpec) (bs : List (List ℕ)) → length ds ≡ length bs → length (disk_configs g n ds bs) ≡ disks_of g ds
disks_count g n [] bs e = refl
disks_count g n (d ∷ ds) [] e = absurd (omega (arith, e))
disks_count g n (d ∷ ds) (b ∷ bs) e =
    let long : length ds ≡ length bs = omega (arith, e) in
    pick (λ cs. length cs ≡ disks_of g (d ∷ ds)) (d.guest == g) (disk_config d b n ∷ disk_configs g (n + 1) ds bs) (disk_configs g n ds bs)
    (λ yes. omega (arith, count_yes g d ds yes, disks_count g (n + 1) ds bs long))
    (λ no. omega (arith, count_no g d ds no, disks_count g n ds bs long))

-- all of them are for disks
pub blks : (g n : ℕ) (ds : List DiskSpec) (bs : List (List ℕ)) → map config_kind (disk_configs g n ds bs) ≡ replicate (length (disk_configs g n ds bs)) kind.Blk
blks g n [] bs = refl
blks g n (d ∷ ds) [] = refl
blks g n (d ∷ ds) (b ∷ bs) =
    pick (λ cs. map config_kind cs ≡ replicate (length cs) kind.Blk) (d.guest == g) (disk_config d b n ∷ disk_configs g (n + 1) ds bs) (disk_configs g n ds bs)
    (λ yes. ap (λ ks. kind.Blk ∷ ks) (blks g (n + 1) ds bs))
    (λ no. blks g n ds bs)

-- a disk of an experiment can be set up with what it has room for
disk_limits : (guests n : ℕ) (d : DiskSpec) (b : List ℕ) → IsDisk guests d → Fills d b → n < 2 → IsInLimits (disk_config d b n)
disk_limits guests n d b is fills few =
    (is.sectors_low, is.sectors_high, (is.base_low, is.base_high, is.seek_num, is.seek_den_low, is.seek_den_high, is.per_sector), fills, few, omega (arith, few))

limits : (guests g n : ℕ) (ds : List DiskSpec) (bs : List (List ℕ)) → All (IsDisk guests) ds →
    ((j : ℕ) (d : DiskSpec) (b : List ℕ) → slice_get ds j ≡ Some d → slice_get bs j ≡ Some b → Fills d b) → n + disks_of g ds ≤ 2 → All IsInLimits (disk_configs g n ds bs)
limits guests g n [] bs all fills few = All-nil IsInLimits
limits guests g n (d ∷ ds) [] all fills few = All-nil IsInLimits
limits guests g n (d ∷ ds) (b ∷ bs) all fills few =
    pick (All IsInLimits) (d.guest == g) (disk_config d b n ∷ disk_configs g (n + 1) ds bs) (disk_configs g n ds bs)
    (λ yes.
    let one = count_yes g d ds yes in
    All-cons IsInLimits (disk_config d b n) (disk_configs g (n + 1) ds bs)
    (disk_limits guests n d b (All-head (IsDisk guests) d ds all) (fills 0 d b refl refl) (omega (arith, few, one)))
    (limits guests g (n + 1) ds bs (All-tail (IsDisk guests) d ds all) (λ j. fills (suc j)) (omega (arith, few, one))))
    (λ no. limits guests g n ds bs (All-tail (IsDisk guests) d ds all) (λ j. fills (suc j)) (omega (arith, few, count_no g d ds no)))

-- and so the machine of a guest has room for its disks
pub are_disks : (guests g : ℕ) (ds : List DiskSpec) (bs : List (List ℕ)) → All (IsDisk guests) ds →
    ((j : ℕ) (d : DiskSpec) (b : List ℕ) → slice_get ds j ≡ Some d → slice_get bs j ≡ Some b → Fills d b) → disks_of g ds ≤ 2 → AreDisks (disk_configs g 0 ds bs)
are_disks guests g ds bs all fills few = record {
  few = omega (arith, few, disks_length g 0 ds bs);
  kinds = blks g 0 ds bs;
  limits = limits guests g 0 ds bs all fills (omega (arith, few));
}

-- lists without a disk, and one list more
pub none_push : {Z : Type 0} (vs : List (Vec DevConfig Z)) (v : Vec DevConfig Z) → ((g : ℕ) → disks_at vs g ≡ []) → v.items ≡ [] → (g : ℕ) → disks_at (vs ++ v ∷ []) g ≡ []
none_push [] v none empty zero = empty
none_push [] v none empty (suc g) = refl
none_push (u ∷ vs) v none empty zero = none 0
none_push (u ∷ vs) v none empty (suc g) = none_push vs v (λ h. none (suc h)) empty g

-- the list of a guest after that of one guest was changed
set_here : {Z : Type 0} (vs : List (Vec DevConfig Z)) (i : ℕ) (w : Vec DevConfig Z) → i < length vs → disks_at (set vs i w) i ≡ w.items
set_here vs i w lt =
    ap (λ ls. get_or ls i []) (map-set (λ x. x.items) vs i w)
    ∙ get_or-set_same (items_of vs) i w.items [] (omega (arith, lt, length-map vs (λ x. x.items)))

set_there : {Z : Type 0} (vs : List (Vec DevConfig Z)) (i : ℕ) (w : Vec DevConfig Z) (g : ℕ) → (g ≡ i → ⊥) → disks_at (set vs i w) g ≡ disks_at vs g
set_there vs i w g ne = ap (λ ls. get_or ls g []) (map-set (λ x. x.items) vs i w) ∙ get_or-set_other (items_of vs) i g w.items [] ne

-- a disk behind the others of its guest is the next disk of the file in its guest's list
pub lists_push : {Z : Type 0} (vs : List (Vec DevConfig Z)) (w : Vec DevConfig Z) (ds : List DiskSpec) (bs : List (List ℕ)) (d : DiskSpec) (b : List ℕ) (g : ℕ)
    → d.guest < length vs → length ds ≡ length bs → w.items ≡ disks_at vs d.guest ++ disk_config d b (length (disks_at vs d.guest)) ∷ []
    → disks_at vs g ≡ disk_configs g 0 ds bs → disks_at (set vs d.guest w) g ≡ disk_configs g 0 (ds ++ d ∷ []) (bs ++ b ∷ [])
lists_push vs w ds bs d b g lt long put is =
    let here = disk_configs g 0 ds bs in
    let count : length here ≡ 0 + length here = omega arith in
    elim (cases_eq g d.guest) [
      | inl same ↦
          ap (λ n. disks_at (set vs d.guest w) n) same
          ∙ set_here vs d.guest w lt
          ∙ put
          ∙ ap (λ n. disks_at vs n ++ disk_config d b (length (disks_at vs n)) ∷ []) (sym same)
          ∙ ap (λ (cs : List DevConfig). cs ++ disk_config d b (length cs) ∷ []) is
          ∙ ap (λ t. here ++ cond t (disk_config d b (length here) ∷ []) []) (sym (eq-eqb d.guest g (sym same)))
          ∙ ap (λ n. here ++ cond (d.guest == g) (disk_config d b n ∷ []) []) count
          ∙ sym (disks_push g 0 ds bs d b long)
      | inr ne ↦
          set_there vs d.guest w g ne
          ∙ is
          ∙ sym (append-nil here)
          ∙ ap (λ t. here ++ cond t (disk_config d b (0 + length here) ∷ []) []) (sym (ne_eqb d.guest g (λ e. ne (sym e))))
          ∙ sym (disks_push g 0 ds bs d b long)
    ]

-- the list that a read finds is that of its guest
pub disks_held : {Z : Type 0} (vs : List (Vec DevConfig Z)) (held : Vec DevConfig Z) (i : ℕ) → held ≡ get_or vs i held → i < length vs → disks_at vs i ≡ held.items
disks_held vs held i is lt = get_or-map (λ x. x.items) vs i held [] lt ∙ ap (λ v. v.items) (sym is)

-- the disks of the guest whose turn it is
pub disks_turn : {Z : Type 0} (vs : List (Vec DevConfig Z)) (held : Vec DevConfig Z) (i n : ℕ) (ds : List DevConfig) → held ≡ get_or vs i held → i ≡ n → i < length vs → ds ≡ held.items
    → disks_at vs n ≡ ds
disks_turn vs held i n ds is e lt same = ap (disks_at vs) (sym e) ∙ disks_held vs held i is lt ∙ sym same

-- it is not longer than the list of all disks
pub held_few : {Z : Type 0} (vs : List (Vec DevConfig Z)) (held : Vec DevConfig Z) (i : ℕ) (ds : List DiskSpec) (bs : List (List ℕ))
    → held ≡ get_or vs i held → i < length vs → disks_at vs i ≡ disk_configs i 0 ds bs → length held.items ≤ length ds
held_few vs held i ds bs is lt each =
    omega (arith, ap length (disks_held vs held i is lt), ap length each, disks_length i 0 ds bs, count_by-le-length (λ (x : DiskSpec). x.guest == i) ds)

-- a push to it puts the next disk of the file in its guest's list
pub lists_put : {Z : Type 0} (vs : List (Vec DevConfig Z)) (held w : Vec DevConfig Z) (x : DevConfig) (n : ℕ) (ds : List DiskSpec) (bs : List (List ℕ)) (d : DiskSpec) (b : List ℕ) (g : ℕ)
    → held ≡ get_or vs d.guest held → d.guest < length vs → w.items ≡ held.items ++ x ∷ [] → x ≡ disk_config d b n → n ≡ length held.items → length ds ≡ length bs
    → disks_at vs g ≡ disk_configs g 0 ds bs → disks_at (set vs d.guest w) g ≡ disk_configs g 0 (ds ++ d ∷ []) (bs ++ b ∷ [])
lists_put vs held w x n ds bs d b g is lt pushed made count long each =
    let here = disks_held vs held d.guest is lt in
    let put : w.items ≡ disks_at vs d.guest ++ disk_config d b (length (disks_at vs d.guest)) ∷ [] =
    pushed
    ∙ ap (λ y. held.items ++ y ∷ []) (made ∙ ap (disk_config d b) count)
    ∙ ap (λ (cs : List DevConfig). cs ++ disk_config d b (length cs) ∷ []) (sym here) in
    lists_push vs w ds bs d b g lt long put each

-- the lists that were made are those of the file's disks
pub lists_are : {Z : Type 0} (vs us : List (Vec DevConfig Z)) (ds es : List DiskSpec) (bs : List (List ℕ)) (m n : ℕ) → vs ≡ us → ds ≡ es → m ≡ n
    → ((g : ℕ) → g < m → disks_at us g ≡ disk_configs g 0 ds bs) → (g : ℕ) → g < n → disks_at vs g ≡ disk_configs g 0 es bs
lists_are vs us ds es bs m n same specs guests each g lt =
    ap (λ ls. disks_at ls g) same ∙ each g (omega (arith, lt, guests)) ∙ ap (λ (xs : List DiskSpec). disk_configs g 0 xs bs) specs
