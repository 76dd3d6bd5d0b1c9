-- Lists of devices in the order of the kinds.
use Rattle.std.proofs.Common.{◌≡◌, ◌==◌, ℕ, zero, suc, ◌+◌, ◌<◌, ◌≤◌, inl, inr, cond, List, [], ◌∷◌, length, map, set, get_or, All, Some, refl, sym, ap, ◌∙◌, subst, arith}
use Rattle.std.specs.Prelude.{slice_get}
use Rattle.std.specs.declared.vec.Vec.{Vec}
use Rattle.std.proofs.lemmas.Bool.{cases_eq, eq-eqb, ne_eqb}
use Rattle.std.proofs.lemmas.List.{get_or-map, get_or-set_same, get_or-set_other, map-set, length-map}
use Rattle.dev_face.specs.States.{DevState, Blank, IsBlankFor, config_kind}
use Rattle.dev_face.specs.declared.config.DevConfig.{DevConfig}
use Rattle.dev_face.specs.declared.kind.Kind.{Kind}
use Rattle.dev_face.specs.declared.kind.Kind.TheVariants as kind
use Rattle.exp_file.specs.declared.experiment.Experiment.{Experiment}
use Rattle.bench_build.specs.declared.build_fault.BuildFault.{BuildFault}
use Rattle.bench_build.specs.declared.build_fault.BuildFault.TheVariants as build
use Rattle.bench_build.specs.Stocks.{rank, list_of, counts, items_of, IsStock, IsShort, IsUnbuilt}
use Rattle.bench_build.specs.Takings.{number_for, with_base, guests_take}
use Rattle.bench_build.proofs.Standing.{some_is}

-- the kinds in their order
abbrev pub kinds : List Kind
kinds = kind.Clint ∷ kind.Uart ∷ kind.Blk ∷ kind.Net ∷ []

-- each kind stands among them at its rank, so the rank names one kind
pub kind_at : (k : Kind) → slice_get kinds (rank k) ≡ Some k
kind_at kind.Clint = refl
kind_at kind.Uart = refl
kind_at kind.Blk = refl
kind_at kind.Net = refl

pub rank_low : (k : Kind) → rank k < 4
rank_low kind.Clint = omega arith
rank_low kind.Uart = omega arith
rank_low kind.Blk = omega arith
rank_low kind.Net = omega arith

same_kind : (j k : Kind) → rank j ≡ rank k → j ≡ k
same_kind j k e = some_is (sym (kind_at j) ∙ ap (slice_get kinds) e ∙ kind_at k)

-- what one guest takes is a part of what a greater number takes
takes_less : (k : Kind) (others : ℕ → List DevConfig) (m n : ℕ) → m < n → guests_take k others m + number_for k (with_base (others m)) ≤ guests_take k others n
takes_less k others m zero less = absurd (omega (arith, less))
takes_less k others m (suc n) less = elim (cases_eq m n) [
  | inl same ↦ let here = ap (λ j. guests_take k others (suc j)) same in omega (arith, here)
  | inr ne ↦ omega (arith, takes_less k others m n (omega (arith, less, ne)))
]

takes_more : (k : Kind) (others : ℕ → List DevConfig) (n : ℕ) → guests_take k others (n + 1) ≡ guests_take k others n + number_for k (with_base (others n))
takes_more k others n = let next : n + 1 ≡ suc n = omega arith in ap (guests_take k others) next

-- so what is left of enough devices is enough for the next guest, and what it leaves for those behind it
pub enough_left : (k : Kind) (others : ℕ → List DevConfig) (m n left had : ℕ) (own : List DevConfig) → others m ≡ own → m < n → guests_take k others n ≤ had
    → left + guests_take k others m ≡ had → number_for k (with_base own) ≤ left
enough_left k others m n left had own is less enough now =
    let taken : number_for k (with_base (others m)) ≡ number_for k (with_base own) = ap (λ (cs : List DevConfig). number_for k (with_base cs)) is in
    omega (arith, taken, takes_less k others m n less, enough, now)

pub left_after : (k : Kind) (others : ℕ → List DevConfig) (m n left after had : ℕ) (own : List DevConfig) → others m ≡ own → n ≡ m + 1
    → after + number_for k (with_base own) ≡ left → left + guests_take k others m ≡ had → after + guests_take k others n ≡ had
left_after k others m n left after had own is next took now =
    let taken : number_for k (with_base (others m)) ≡ number_for k (with_base own) = ap (λ (cs : List DevConfig). number_for k (with_base cs)) is in
    omega (arith, taken, takes_more k others m, ap (guests_take k others) next, took, now)

-- a stock that is short is a reason why a bench is not built
pub unbuilt : (e : Experiment) (had : Kind → ℕ) (f : BuildFault) → IsShort e had f → IsUnbuilt e had f
unbuilt e had (build.Image guest fault) short = short
unbuilt e had (build.DiskSize disk len room) short = short
unbuilt e had (build.NoDevice k w h) short = short
unbuilt e had build.NoMemory short = tt

-- the list at the rank of a kind is that of the kind
pub list_at : {A Z : Type 0} (vs : List (Vec A Z)) (k : Kind) (i : ℕ) (d : Vec A Z) → i ≡ rank k → i < length vs → list_of (items_of vs) k ≡ (get_or vs i d).items
list_at vs k i d e lt = ap (λ n. get_or (items_of vs) n []) (sym e) ∙ get_or-map (λ x. x.items) vs i d [] lt

-- and so it is after the list was changed, and the others are as they were
set_here : {A Z : Type 0} (vs : List (Vec A Z)) (i : ℕ) (w : Vec A Z) (k : Kind) → rank k ≡ i → i < length vs → list_of (items_of (set vs i w)) k ≡ w.items
set_here vs i w k e lt =
    ap (λ ls. list_of ls k) (map-set (λ x. x.items) vs i w)
    ∙ ap (λ n. get_or (set (items_of vs) i w.items) n []) e
    ∙ get_or-set_same (items_of vs) i w.items [] (omega (arith, lt, length-map vs (λ x. x.items)))

set_there : {A Z : Type 0} (vs : List (Vec A Z)) (i : ℕ) (w : Vec A Z) (k : Kind) → (rank k ≡ i → ⊥) → list_of (items_of (set vs i w)) k ≡ list_of (items_of vs) k
set_there vs i w k ne = ap (λ ls. list_of ls k) (map-set (λ x. x.items) vs i w) ∙ get_or-set_other (items_of vs) i (rank k) w.items [] ne

-- a stock is one still when the list of a configuration's kind is another one of blank devices for it
pub stock_set : {A Z : Type 0} (state : A → DevState) (vs : List (Vec A Z)) (c : DevConfig) (i : ℕ) (w : Vec A Z) → i ≡ rank (config_kind c) → i < length vs
    → IsStock state (items_of vs) → All (IsBlankFor c) (map state w.items) → IsStock state (items_of (set vs i w))
stock_set {A} state vs c i w e lt stock blank k = elim (cases_eq (rank k) i) [
  | inl same ↦ subst (λ xs. All (λ s. s ≡ Blank k) (map state xs)) (sym (set_here vs i w k same lt))
      (subst (λ j. All (λ s. s ≡ Blank j) (map state w.items)) (same_kind (config_kind c) k (sym e ∙ sym same)) blank)
  | inr ne ↦ subst (λ xs. All (λ s. s ≡ Blank k) (map state xs)) (sym (set_there vs i w k ne)) (stock k)
]

-- with one device fewer in the list of its kind there is one fewer of that kind
pub counts_set : {A Z : Type 0} (vs : List (Vec A Z)) (c : DevConfig) (i : ℕ) (d w : Vec A Z) (k : Kind) → i ≡ rank (config_kind c) → i < length vs
    → length (get_or vs i d).items ≡ length w.items + 1 → counts (items_of (set vs i w)) k + cond (rank (config_kind c) == rank k) 1 0 ≡ counts (items_of vs) k
counts_set vs c i d w k e lt fewer = elim (cases_eq (rank k) i) [
  | inl same ↦
      let one : 0 + cond (rank (config_kind c) == rank k) 1 0 ≡ 1 = ap (λ b. 0 + cond b 1 0) (eq-eqb (rank (config_kind c)) (rank k) (sym e ∙ sym same)) in
      omega (arith, one, fewer, ap length (set_here vs i w k same lt), ap length (list_at vs k i d (sym same) lt))
  | inr ne ↦
      let none : 0 + cond (rank (config_kind c) == rank k) 1 0 ≡ 0 = ap (λ b. 0 + cond b 1 0) (ne_eqb (rank (config_kind c)) (rank k) (λ h. ne (sym h ∙ sym e))) in
      omega (arith, none, ap length (set_there vs i w k ne))
]
