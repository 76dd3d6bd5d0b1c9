-- What guests need of the slots that they stand on, and whether a placement fits. A placement is a list of slots, one for each guest.
use Rattle.std.specs.Prelude.{◌≡◌, ◌==◌, ℕ, ◌<◌, ◌≤◌, ◌*◌, ◌-◌, nat_lt, Bool, List, map, length, All, Option, Some, None, Result, Ok, Err, option_map, slice_get}
use Rattle.std.specs.List.{filter, zip, sum, find, range_with_len}
use Rattle.exp_file.specs.declared.experiment.Experiment.{Experiment}
use Rattle.exp_file.specs.declared.guest_spec.GuestSpec.{GuestSpec}
use Rattle.exp_file.specs.declared.slot_spec.SlotSpec.{SlotSpec}
use Rattle.host_plan.specs.declared.least.Least.{Least}
use Rattle.host_plan.specs.declared.overload.Overload.{Overload}

-- one slot for each guest
pub record IsPlacement (e : Experiment) (p : List ℕ) : Type 0 where
  pub one_each : length p ≡ length e.guests.items
  pub slots : All (λ s. s < length e.slots.items) p

-- the rates of the guests that stand on a slot, and their sum
abbrev pub rates_on : List GuestSpec → List ℕ → ℕ → List ℕ
rates_on guests p s = map (λ x. x.0.rate) (filter (λ x. x.1 == s) (zip guests p))

abbrev pub need : Experiment → List ℕ → ℕ → ℕ
need e p s = sum (rates_on e.guests.items p s)

-- the capacity of a slot, and what it has under the experiment's factor
abbrev pub capacity_if : Option SlotSpec → ℕ
capacity_if None = 0
capacity_if (Some x) = x.capacity

abbrev pub capacity : Experiment → ℕ → ℕ
capacity e s = capacity_if (slice_get e.slots.items s)

abbrev pub have : Experiment → ℕ → ℕ
have e s = capacity e s * e.factor

-- a placement fits under a factor where no slot's guests need more than it has
abbrev pub FitsAt : ℕ → Experiment → List ℕ → Type 0
FitsAt factor e p = (s : ℕ) → s < length e.slots.items → need e p s ≤ capacity e s * factor

abbrev pub Fits : Experiment → List ℕ → Type 0
Fits e p = FitsAt e.factor e p

-- the least slot that does not fit, with its need and what it has
abbrev pub is_over : Experiment → List ℕ → ℕ → Bool
is_over e p s = nat_lt (have e s) (need e p s)

abbrev pub overload_at : Experiment → List ℕ → ℕ → Overload
overload_at e p s = record { slot = s; need = need e p s; have = have e s }

abbrev pub first_overload : Experiment → List ℕ → Option Overload
first_overload e p = option_map (overload_at e p) (find (is_over e p) (range_with_len 0 (length e.slots.items)))

-- the same in words
pub record IsFirstOverload (e : Experiment) (p : List ℕ) (o : Overload) : Type 0 where
  pub slot : o.slot < length e.slots.items
  pub needs : o.need ≡ need e p o.slot
  pub has : o.have ≡ have e o.slot
  pub over : o.have < o.need
  pub before : (s : ℕ) → s < o.slot → need e p s ≤ have e s

-- an answer that is the first overload, or none where there is none
abbrev pub Tells : Result (Unit {0}) Overload → Option Overload → Type 0
Tells (Ok x) over = over ≡ None
Tells (Err o) over = over ≡ Some o

-- the least factor, and the least slot that does not fit under one less
pub record IsLeast (e : Experiment) (p : List ℕ) (l : Least) : Type 0 where
  pub some : 1 ≤ l.factor
  pub fits : FitsAt l.factor e p
  pub least : (f : ℕ) → 1 ≤ f → FitsAt f e p → l.factor ≤ f
  pub slot : l.slot < length e.slots.items
  pub one : l.factor ≡ 1 → l.slot ≡ 0
  pub tight : 1 < l.factor → capacity e l.slot * (l.factor - 1) < need e p l.slot
  pub before : (s : ℕ) → s < l.slot → need e p s ≤ capacity e s * (l.factor - 1)
