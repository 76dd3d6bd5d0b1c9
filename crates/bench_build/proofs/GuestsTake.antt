-- What the guests take of a stock is what their experiment needs.
use Rattle.std.proofs.Common.{◌≡◌, ◌==◌, ℕ, zero, suc, ◌+◌, ◌<◌, ◌≤◌, false, cond, inl, inr, List, [], ◌∷◌, ◌++◌, map, replicate, length, refl, ap, ◌∙◌, arith}
use Rattle.std.specs.List.{sum}
use Rattle.std.proofs.lemmas.Bool.{cases_eq, eq-eqb, ne_eqb}
use Rattle.std.proofs.lemmas.List.Sums.{sum_by-cons}
use Rattle.dev_face.specs.States.{config_kind}
use Rattle.dev_face.specs.declared.config.DevConfig.{DevConfig}
use Rattle.dev_face.specs.declared.kind.Kind.{Kind}
use Rattle.dev_face.specs.declared.kind.Kind.TheVariants as kind
use Rattle.exp_file.specs.Disks.{disks_of}
use Rattle.exp_file.specs.Links.{nics_of}
use Rattle.exp_file.specs.declared.disk_spec.DiskSpec.{DiskSpec}
use Rattle.exp_file.specs.declared.experiment.Experiment.{Experiment}
use Rattle.exp_file.specs.declared.guest_spec.GuestSpec.{GuestSpec}
use Rattle.bench_build.specs.Setups.{disk_configs, disks_and_nics, nic_configs}
use Rattle.bench_build.specs.Stocks.{rank, needs}
use Rattle.bench_build.specs.Takings.{number_for, with_base, guests_take}
use Rattle.bench_build.proofs.GuestDisks.{blks, count_first, disks_length}
use Rattle.bench_build.proofs.GuestNics.{nets, nics_count}

-- lists one behind the other take what both take
pub number_append : (k : Kind) (xs ys : List DevConfig) → number_for k (xs ++ ys) ≡ number_for k xs + number_for k ys
number_append k [] ys = omega arith
number_append k (x ∷ xs) ys = omega (arith, number_append k xs ys)

-- devices of one kind take none of another
none_for : (j k : Kind) → (rank j == rank k) ≡ false → (cs : List DevConfig) → map config_kind cs ≡ replicate (length cs) j → number_for k cs ≡ 0
none_for j k other [] is = refl
none_for j k other (c ∷ cs) is =
    let first : config_kind c ≡ j = cc in
    let rest : map config_kind cs ≡ replicate (length cs) j = cc in
    let none : 0 + cond (rank (config_kind c) == rank k) 1 0 ≡ 0 = ap (λ (i : Kind). 0 + cond (rank i == rank k) 1 0) first ∙ ap (λ t. 0 + cond t 1 0) other in
    omega (arith, none, none_for j k other cs rest)

-- and of their own one each
all_for : (k : Kind) (cs : List DevConfig) → map config_kind cs ≡ replicate (length cs) k → number_for k cs ≡ length cs
all_for k [] is = refl
all_for k (c ∷ cs) is =
    let first : config_kind c ≡ k = cc in
    let rest : map config_kind cs ≡ replicate (length cs) k = cc in
    let one : 0 + cond (rank (config_kind c) == rank k) 1 0 ≡ 1 =
    ap (λ (i : Kind). 0 + cond (rank i == rank k) 1 0) first ∙ ap (λ t. 0 + cond t 1 0) (eq-eqb (rank k) (rank k) refl) in
    omega (arith, one, all_for k cs rest)

-- the sum of the first n numbers
abbrev sum_to : (ℕ → ℕ) → ℕ → ℕ
sum_to f zero = 0
sum_to f (suc n) = sum_to f n + f n

sum_le : (k : Kind) (others : ℕ → List DevConfig) (f : ℕ → ℕ) (n : ℕ) → ((g : ℕ) → g < n → number_for k (with_base (others g)) ≤ f g) → guests_take k others n ≤ sum_to f n
sum_le k others f zero each = omega arith
sum_le k others f (suc n) each =
    let below = sum_le k others f n (λ g lt. each g (omega (arith, lt))) in
    let here = each n (omega arith) in
    omega (arith, below, here)

sum_zero : (n : ℕ) → sum_to (λ g. 0) n ≡ 0
sum_zero zero = refl
sum_zero (suc n) = omega (arith, sum_zero n)

sum_one : (n : ℕ) → sum_to (λ g. 1) n ≡ n
sum_one zero = refl
sum_one (suc n) = omega (arith, sum_one n)

-- a sum begins with its first number
sum_first : (f : ℕ → ℕ) (n : ℕ) → sum_to f (suc n) ≡ f 0 + sum_to (λ k. f (suc k)) n
sum_first f zero = omega arith
sum_first f (suc n) = let below = sum_first f n in omega (arith, below)

-- one number stands once among the first n, or not at all
not_yet : (a n : ℕ) → n ≤ a → sum_to (λ g. cond (a == g) 1 0) n ≡ 0
not_yet a zero le = refl
not_yet a (suc n) le =
    let none : 0 + cond (a == n) 1 0 ≡ 0 = ap (λ t. 0 + cond t 1 0) (ne_eqb a n (λ e. absurd (omega (arith, e, le)))) in
    omega (arith, none, not_yet a n (omega (arith, le)))

at_most_once : (a n : ℕ) → sum_to (λ g. cond (a == g) 1 0) n ≤ 1
at_most_once a zero = omega arith
at_most_once a (suc n) = elim (cases_eq a n) [
  | inl same ↦
      let one : 0 + cond (a == n) 1 0 ≡ 1 = ap (λ t. 0 + cond t 1 0) (eq-eqb a n same) in
      omega (arith, one, not_yet a n (omega (arith, same)))
  | inr ne ↦
      let none : 0 + cond (a == n) 1 0 ≡ 0 = ap (λ t. 0 + cond t 1 0) (ne_eqb a n ne) in
      omega (arith, none, at_most_once a n)
]

sum_add : (f h : ℕ → ℕ) (e : ℕ → ℕ) (n : ℕ) → ((g : ℕ) → e g ≡ f g + h g) → sum_to e n ≡ sum_to f n + sum_to h n
sum_add f h e zero each = refl
sum_add f h e (suc n) each = omega (arith, sum_add f h e n each, each n)

-- the guests' disks together are no more than all disks
all_disks : (ds : List DiskSpec) (n : ℕ) → sum_to (λ g. disks_of g ds) n ≤ length ds
all_disks [] n = omega (arith, sum_zero n)
all_disks (d ∷ ds) n =
    let sums = sum_add (λ g. cond (d.guest == g) 1 0) (λ g. disks_of g ds) (λ g. disks_of g (d ∷ ds)) n (λ g. count_first g d ds) in
    omega (arith, sums, at_most_once d.guest n, all_disks ds n)

-- and their nics are all nics
all_nics : (gs : List GuestSpec) → sum_to (nics_of gs) (length gs) ≡ sum (map (λ g. g.nics) gs)
all_nics [] = refl
all_nics (g ∷ gs) =
    let first : sum_to (nics_of (g ∷ gs)) (suc (length gs)) ≡ g.nics + sum_to (nics_of gs) (length gs) = sum_first (nics_of (g ∷ gs)) (length gs) in
    let one : sum (map (λ x. x.nics) (g ∷ gs)) ≡ g.nics + sum (map (λ x. x.nics) gs) = sum_by-cons (λ n. n) g.nics (map (λ x. x.nics) gs) in
    omega (arith, first, one, all_nics gs)

-- an experiment needs as many devices of each kind as its guests take
pub takes_within : (e : Experiment) (bs : List (List ℕ)) (others : ℕ → List DevConfig) →
    ((g : ℕ) → g < length e.guests.items → others g ≡ disks_and_nics e bs g) → (k : Kind) → guests_take k others (length e.guests.items) ≤ needs e k
takes_within e bs others same = elim [
  | kind.Clint ↦ omega (arith, sum_le kind.Clint others (λ g. 1) guests (λ g lt. omega (arith, parts kind.Clint g lt, no_disk kind.Clint refl g, no_nic kind.Clint refl g)), sum_one guests)
  | kind.Uart ↦ omega (arith, sum_le kind.Uart others (λ g. 1) guests (λ g lt. omega (arith, parts kind.Uart g lt, no_disk kind.Uart refl g, no_nic kind.Uart refl g)), sum_one guests)
  | kind.Blk ↦ omega (arith, sum_le kind.Blk others (λ g. disks_of g e.disks.items) guests (λ g lt. disk_take g lt), all_disks e.disks.items guests)
  | kind.Net ↦ omega (arith, sum_le kind.Net others (nics_of e.guests.items) guests (λ g lt. nic_take g lt), all_nics e.guests.items)
]
  where
    guests : ℕ
    guests = length e.guests.items

    disks : ℕ → List DevConfig
    disks g = disk_configs g 0 e.disks.items bs

    nics : ℕ → List DevConfig
    nics g = nic_configs g (disks_of g e.disks.items) (nics_of e.guests.items g)

    parts : (k : Kind) (g : ℕ) → g < guests → number_for k (others g) ≡ number_for k (disks g) + number_for k (nics g)
    parts k g lt = ap (number_for k) (same g lt) ∙ number_append k (disks g) (nics g)

    no_disk : (k : Kind) → (rank kind.Blk == rank k) ≡ false → (g : ℕ) → number_for k (disks g) ≡ 0
    no_disk k other g = none_for kind.Blk k other (disks g) (blks g 0 e.disks.items bs)

    no_nic : (k : Kind) → (rank kind.Net == rank k) ≡ false → (g : ℕ) → number_for k (nics g) ≡ 0
    no_nic k other g = none_for kind.Net k other (nics g) (nets g (disks_of g e.disks.items) (nics_of e.guests.items g))

    disk_take : (g : ℕ) → g < guests → number_for kind.Blk (with_base (others g)) ≤ disks_of g e.disks.items
    disk_take g lt = omega (arith, parts kind.Blk g lt, all_for kind.Blk (disks g) (blks g 0 e.disks.items bs), no_nic kind.Blk refl g, disks_length g 0 e.disks.items bs)

    nic_take : (g : ℕ) → g < guests → number_for kind.Net (with_base (others g)) ≤ nics_of e.guests.items g
    nic_take g lt =
        let few = nics_count g (disks_of g e.disks.items) (nics_of e.guests.items g) in
        omega (arith, parts kind.Net g lt, no_disk kind.Net refl g, all_for kind.Net (nics g) (nets g (disks_of g e.disks.items) (nics_of e.guests.items g)), few)
