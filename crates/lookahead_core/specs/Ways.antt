-- The links of each node, by their indexes.
use Rattle.std.specs.Prelude.{ℕ, ◌+◌, ◌≡◌, Bool, ◌==◌, List, [], ◌∷◌, if◌then◌else◌, length, slice_get, Some}
use Rattle.lookahead_core.specs.declared.ways.Ways.{Ways}
use Rattle.lookahead_core.specs.declared.wire.Wire.{Wire}

-- of wires whose first has index k, the indexes of those that pass a test, ascending
abbrev pub indexes_from : (Wire → Bool) → ℕ → List Wire → List ℕ
indexes_from passes k [] = []
indexes_from passes k (w ∷ ws) = if passes w then k ∷ indexes_from passes (k + 1) ws else indexes_from passes (k + 1) ws

-- the indexes of the wires that lead to node g, and of those that begin at it
abbrev pub into_of : ℕ → List Wire → List ℕ
into_of g wires = indexes_from (λ w. w.to == g) 0 wires

abbrev pub out_of : ℕ → List Wire → List ℕ
out_of g wires = indexes_from (λ w. w.from == g) 0 wires

-- these are the ways of node g among the wires
pub record AreWays (g : ℕ) (ways : Ways) (wires : List Wire) : Type 0 where
  pub into : ways.into.items ≡ into_of g wires
  pub out : ways.out.items ≡ out_of g wires

-- these are the ways of each of so many nodes, in their order
pub record AllWays (nodes : ℕ) (ways : List Ways) (wires : List Wire) : Type 0 where
  pub count : length ways ≡ nodes
  pub each : (g : ℕ) (own : Ways) → slice_get ways g ≡ Some own → AreWays g own wires
