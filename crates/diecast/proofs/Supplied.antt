-- The boxes of the program are enough for every experiment.
use Rattle.std.proofs.Common.{◌≡◌, ℕ, ◌≤◌, List, [], ◌∷◌, All, map, Ok, inl, inr, length, sym, subst, arith}
use Rattle.std.specs.List.{sum}
use Rattle.std.proofs.lemmas.List.Sums.{sum-map, sum_by-le}
use Rattle.std.proofs.Math.Path.{fun_ext}
use Rattle.dev_face.specs.States.{DevState, Blank}
use Rattle.dev_face.specs.declared.kind.Kind.{Kind}
use Rattle.dev_face.specs.declared.kind.Kind.TheVariants as kind
use Rattle.exp_file.specs.Reading.{reading}
use Rattle.exp_file.specs.WellFormed.{IsWellFormed}
use Rattle.exp_file.specs.declared.experiment.Experiment.{Experiment}
use Rattle.exp_file.specs.declared.guest_spec.GuestSpec.{GuestSpec}
use Rattle.gen_load.specs.Loads.{ring}
use Rattle.bench_build.specs.Stocks.{needs, Suffices, IsShort, IsStock, counts}
use Rattle.bench_build.specs.declared.build_fault.BuildFault.TheVariants as build
use Rattle.tb_top.specs.Origins.{IsGiven}
use Rattle.diecast.specs.Boxes.{boxes}

-- an experiment that a file says has 32 guests, 64 disks and 128 nics at most, and a load of 2 to 32 guests is well formed
pub record AreFew : Type 0 where
  pub guests : (b : List ℕ) (e : Experiment) → reading b ≡ Ok e → length e.guests.items ≤ 32
  pub disks : (b : List ℕ) (e : Experiment) → reading b ≡ Ok e → length e.disks.items ≤ 64
  pub nics : (b : List ℕ) (e : Experiment) → reading b ≡ Ok e → sum (map (λ g. g.nics) e.guests.items) ≤ 128
  pub loads : (n : ℕ) → 2 ≤ n → n ≤ 32 → IsWellFormed (ring n)

enough : AreFew → (b : List ℕ) (e : Experiment) → reading b ≡ Ok e → (k : Kind) → needs e k ≤ boxes k
enough few b e read kind.Clint = few.guests b e read
enough few b e read kind.Uart = few.guests b e read
enough few b e read kind.Blk = few.disks b e read
enough few b e read kind.Net = few.nics b e read

-- the nics of guests that have four each at most
four_each : (e : Experiment) → IsWellFormed e → sum (map (λ g. g.nics) e.guests.items) ≤ 128
four_each e w =
    omega (arith, w.guests_high, sum-map (λ (g : GuestSpec). g.nics) e.guests.items, sum_by-le (λ (g : GuestSpec). g.nics) 4 e.guests.items (λ k d lt. (w.guests k d lt).nics))

enough_formed : (e : Experiment) → IsWellFormed e → (k : Kind) → needs e k ≤ boxes k
enough_formed e w kind.Clint = w.guests_high
enough_formed e w kind.Uart = w.guests_high
enough_formed e w kind.Blk = w.disks_high
enough_formed e w kind.Net = four_each e w

-- the boxes are enough for every experiment that is given
pub boxes_suffice : AreFew → (e : Experiment) → IsGiven e → Suffices e boxes
boxes_suffice few e (inl (b, read)) = record { of = enough few b e read }
boxes_suffice few e (inr (n, low, high, same)) = record { of = enough_formed e (subst (λ (x : Experiment). IsWellFormed x) (sym same) (few.loads n low high)) }

-- the lists of the program are a stock with so many boxes of each kind
pub is_stock : {A : Type 0} (state : A → DevState) (clints uarts blks nets : List A) → All (λ s. s ≡ Blank kind.Clint) (map state clints) → All (λ s. s ≡ Blank kind.Uart) (map state uarts)
    → All (λ s. s ≡ Blank kind.Blk) (map state blks) → All (λ s. s ≡ Blank kind.Net) (map state nets) → IsStock state (clints ∷ uarts ∷ blks ∷ nets ∷ [])
is_stock state clints uarts blks nets p q r t kind.Clint = p
is_stock state clints uarts blks nets p q r t kind.Uart = q
is_stock state clints uarts blks nets p q r t kind.Blk = r
is_stock state clints uarts blks nets p q r t kind.Net = t

counted : {A : Type 0} (clints uarts blks nets : List A) → length clints ≡ 32 → length uarts ≡ 32 → length blks ≡ 64 → length nets ≡ 128 → (k : Kind) → counts (clints ∷ uarts ∷ blks ∷ nets ∷ []) k ≡ boxes k
counted clints uarts blks nets p q r t kind.Clint = p
counted clints uarts blks nets p q r t kind.Uart = q
counted clints uarts blks nets p q r t kind.Blk = r
counted clints uarts blks nets p q r t kind.Net = t

pub boxes_counted : {A : Type 0} (clints uarts blks nets : List A) → length clints ≡ 32 → length uarts ≡ 32 → length blks ≡ 64 → length nets ≡ 128 → counts (clints ∷ uarts ∷ blks ∷ nets ∷ []) ≡ boxes
boxes_counted clints uarts blks nets p q r t = fun_ext (counted clints uarts blks nets p q r t)

-- no device is wanting for an experiment that is given
pub supplied : AreFew → (k : Kind) (wanted had : ℕ) → (e : Experiment) × IsGiven e × IsShort e boxes (build.NoDevice k wanted had) → ⊥
supplied few k wanted had (e, is, short) = omega (arith, (boxes_suffice few e is).of k, short.wanted, short.had_is, short.short)
