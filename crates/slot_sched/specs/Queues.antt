-- What the sets hold by which a slot's next node is found.
use Rattle.std.specs.Prelude.{ℕ, ◌≡◌, ◌==◌, nat_lt, ◌&&◌, Bool, true, false, cond, List, slice_get, slice_index, Some}
use Rattle.std.specs.declared.cmp.Ordering.{Ordering}
use Rattle.std.specs.Ordering.{nat_cmp, ordering_then}
use Rattle.std.specs.BTreeMap.{is_at}
use Rattle.std.specs.BTreeSet.{BTreeSet, contains}

-- a count and the number of a node
abbrev pub Place : Type 0
Place = ℕ × ℕ

-- places are in order by their counts, and those of one count by their numbers
abbrev pub place_cmp : Place → Place → Ordering
place_cmp a b = ordering_then (nat_cmp a.0 b.0) (nat_cmp a.1 b.1)

-- whether a node below n stands on this slot and has this count
abbrev pub is_placed : (ℕ → ℕ) → List ℕ → ℕ → ℕ → ℕ → ℕ → Bool
is_placed done homes n slot count g = nat_lt g n && (slice_index homes g == slot && done g == count)

-- the set of each slot has the place of each node below n that stands on the slot, and no other
abbrev pub AreQueued : (ℕ → ℕ) → List ℕ → ℕ → List (BTreeSet Place) → Type 0
AreQueued done homes n queues =
    (slot : ℕ) (queue : BTreeSet Place) → slice_get queues slot ≡ Some queue → (count g : ℕ) → contains place_cmp queue (count, g) ≡ is_placed done homes n slot count g

-- a place was taken out of a set, and another one put in
abbrev pub Moves : Place → Place → BTreeSet Place → BTreeSet Place → Type 0
Moves from to old new = (k : Place) → contains place_cmp new k ≡ cond (is_at (place_cmp to) k) true (cond (is_at (place_cmp from) k) false (contains place_cmp old k))
