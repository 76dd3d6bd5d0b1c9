-- Where a core and its journal stand within a turn, between turns and between host ticks, and that no node falls behind.
use Rattle.std.specs.Prelude.{ℕ, ◌+◌, ◌-◌, ◌*◌, ◌/◌, ◌≤◌, ◌<◌, ◌≡◌, ◌≢◌, true, false, List, ◌++◌, length, slice_index, Option, None, Some}
use Rattle.trace_rec.specs.declared.rec.Rec.{Rec}
use Rattle.lookahead_core.specs.Motion.{Motion}
use Rattle.lookahead_core.specs.Synchronous.{Setup, trace, work}
use Rattle.lookahead_core.specs.CoreWords.{StandsFor, GoesOn, Rests, node_count, ticks_done, units_spent, goes}
use Rattle.lookahead_core.specs.declared.node.Node.{Ghosts}
use Rattle.lookahead_core.specs.declared.node_core.Core.{Core}
use Rattle.slot_sched.specs.Legal.{At, MayLeave, IsFull}
use Rattle.slot_sched.specs.Schedule.{HostSetup, home_of, capacity_of, rules, sum_at}

-- what a node lacks of the work of k ticks, by its units
abbrev pub lack : {S : Type 0} → Motion S → Setup S → ℕ → (ℕ → ℕ) → ℕ → ℕ
lack m x k units g = work m x g k - units g

-- where a journal stands: the core stands for X, every node is at rest, and the units are those of the journal
pub record IsAt {N : Type 0} {G : Ghosts N} (x : Setup G.State) (core : Core N G) (at : At) : Type 0 where
  pub stands : StandsFor core x
  pub rests : Rests core
  pub units : (g : ℕ) → g < x.count → at.units g ≡ units_spent x core g
  pub live : at.ended ≡ false

-- within the turn of a slot, in a host tick, after so many units of it
pub record InTurn {N : Type 0} {G : Ghosts N} (x : Setup G.State) (core : Core N G) (host slot spent : ℕ) (at : At) : Type 0 where
  pub here : IsAt x core at
  pub open_turn : at.turn ≡ true
  pub turns : at.turns ≡ slot + 1
  pub host_is : at.host ≡ host
  pub spent_is : at.spent ≡ spent

-- between turns: so many slots had theirs, and the last one may be left
pub record Between {N : Type 0} {G : Ghosts N} (x : Setup G.State) (core : Core N G) (p : HostSetup) (host turns : ℕ) (at : At) : Type 0 where
  pub here : IsAt x core at
  pub turns_are : at.turns ≡ turns
  pub host_is : at.host ≡ host
  pub may_leave : MayLeave (rules G.motion x p) at

-- between host ticks
pub record BetweenTicks {N : Type 0} {G : Ghosts N} (x : Setup G.State) (core : Core N G) (p : HostSetup) (host : ℕ) (at : At) : Type 0 where
  pub here : IsAt x core at
  pub host_is : at.host ≡ host
  pub opening : at.host ≡ 0 → at.turns ≡ 0
  pub full : 1 ≤ at.host → IsFull (rules G.motion x p) at

-- of the nodes below n of a slot that may go, this one has the least count, or there is none
pub record IsBestBelow {N : Type 0} {G : Ghosts N} (core : Core N G) (homes : List ℕ) (slot n : ℕ) (best : Option ℕ) : Type 0 where
  pub none : best ≡ None → (g : ℕ) → g < n → slice_index homes g ≡ slot → goes core g ≡ false
  pub within : (b : ℕ) → best ≡ Some b → b < n
  pub home : (b : ℕ) → best ≡ Some b → slice_index homes b ≡ slot
  pub may : (b : ℕ) → best ≡ Some b → goes core b ≡ true
  pub least : (b : ℕ) → best ≡ Some b → (g : ℕ) → g < n → slice_index homes g ≡ slot → goes core g ≡ true → ticks_done core b ≤ ticks_done core g

-- each node has done at least k - 1 ticks
abbrev pub HasDone : {N : Type 0} {G : Ghosts N} → Core N G → ℕ → Type 0
HasDone core k = (g : ℕ) → g < node_count core → k ≤ ticks_done core g + 1

-- what the nodes of a slot lack together of the work of k ticks
abbrev pub owed : {N : Type 0} {G : Ghosts N} → Setup G.State → Core N G → HostSetup → ℕ → ℕ → ℕ
owed {N} {G} x core p k s = sum_at (home_of p) s (lack G.motion x k (units_spent x core)) x.count

-- the core went on at a node by at least one unit. A node that has not done k ticks went on at most to the end of tick k
pub record Moved {N : Type 0} {G : Ghosts N} (x : Setup G.State) (old new : Core N G) (who k used : ℕ) : Type 0 where
  pub goes_on : GoesOn x who used old new
  pub some : 1 ≤ used
  pub risen : ticks_done old who ≤ ticks_done new who
  pub within : ticks_done old who < k → units_spent x new who ≤ work G.motion x who k

-- and these are the records of the ticks that it did
pub record Went {N : Type 0} {G : Ghosts N} (x : Setup G.State) (old new : Core N G) (who k used : ℕ) (recs : List Rec) : Type 0 where
  pub moved : Moved x old new who k used
  pub told : trace G.motion x who (ticks_done old who) ++ recs ≡ trace G.motion x who (ticks_done new who)

-- a quantum was run: the core went on at a node
pub record Served {N : Type 0} {G : Ghosts N} (x : Setup G.State) (old new : Core N G) (host slot who k spent used : ℕ) (at : At) : Type 0 where
  pub turn : InTurn x new host slot (spent + used) at
  pub moved : Moved x old new who k used

-- within a turn, of the core at its start and now: what is owed on this slot fell by the units spent, or is 0
pub record Serving {N : Type 0} {G : Ghosts N} (x : Setup G.State) (old new : Core N G) (p : HostSetup) (host slot k spent : ℕ) (at : At) : Type 0 where
  pub turn : InTurn x new host slot spent at
  pub has_done : HasDone new k
  pub mine : owed x new p k slot ≤ owed x old p k slot - spent
  pub others : (s : ℕ) → s ≢ slot → owed x new p k s ≡ owed x old p k s

-- after a turn: what is owed on this slot fell by its capacity, or is 0
pub record TurnDone {N : Type 0} {G : Ghosts N} (x : Setup G.State) (old new : Core N G) (p : HostSetup) (host slot k : ℕ) (at : At) : Type 0 where
  pub between : Between x new p host (slot + 1) at
  pub has_done : HasDone new k
  pub mine : owed x new p k slot ≤ owed x old p k slot - capacity_of p slot
  pub others : (s : ℕ) → s ≢ slot → owed x new p k s ≡ owed x old p k s

-- after the turns of so many slots: what is owed on each of these fell by its capacity, or is 0
pub record TurnsDone {N : Type 0} {G : Ghosts N} (x : Setup G.State) (old new : Core N G) (p : HostSetup) (host turns k : ℕ) (at : At) : Type 0 where
  pub between : Between x new p host turns at
  pub has_done : HasDone new k
  pub served : (s : ℕ) → s < turns → owed x new p k s ≤ owed x old p k s - capacity_of p s
  pub waiting : (s : ℕ) → turns ≤ s → owed x new p k s ≡ owed x old p k s

-- after t host ticks: each node has done t / factor ticks, and what is owed of the next one can still be paid
pub record KeepsUp {N : Type 0} {G : Ghosts N} (x : Setup G.State) (core : Core N G) (p : HostSetup) (t : ℕ) : Type 0 where
  pub has_done : HasDone core (t / p.factor + 1)
  pub owes : (s : ℕ) → s < length p.capacities → owed x core p (t / p.factor + 1) s ≤ capacity_of p s * ((t / p.factor + 1) * p.factor - t)
  pub fit : (s : ℕ) → s < length p.capacities → sum_at (home_of p) s (λ g. G.motion.rate (x.opening g)) x.count ≤ capacity_of p s * p.factor
  pub homed : (g : ℕ) → g < x.count → home_of p g < length p.capacities
  pub factor_some : 1 ≤ p.factor
