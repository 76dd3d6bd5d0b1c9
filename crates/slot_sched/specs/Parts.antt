-- What every part of a host tick leaves of the scheduler, of the keeper and of the sink.
use Rattle.std.specs.Prelude.{ℕ, ◌≡◌, false, length, Result, OnOk}
use Rattle.lookahead_core.specs.CoreWords.{Rests, node_count, ticks_done, has_failed}
use Rattle.lookahead_core.specs.declared.node.Node.{Ghosts}
use Rattle.lookahead_core.specs.declared.node_core.Core.{Core}
use Rattle.slot_sched.specs.Causes.{TickCause}
use Rattle.slot_sched.specs.Queues.{AreQueued}
use Rattle.slot_sched.specs.Schedule.{HostSetup}
use Rattle.slot_sched.specs.declared.fault.TickFault.{TickFault}
use Rattle.slot_sched.specs.declared.scheduler.Scheduler.{Scheduler}

-- the core can go on: it has not failed, and every node is at rest
pub record CanGo {N : Type 0} {G : Ghosts N} (core : Core N G) : Type 0 where
  pub going : has_failed core ≡ false
  pub rests : Rests core

-- the sets of its slots have each node at its count
abbrev pub IsQueued : {N : Type 0} {G : Ghosts N} → Scheduler N G → Type 0
IsQueued s = AreQueued (ticks_done s.core) s.homes.items (length s.homes.items) s.queues.items

-- the scheduler works by this setup, and each node has to reach tick k
pub record WorksBy {N : Type 0} {G : Ghosts N} (s : Scheduler N G) (p : HostSetup) (k : ℕ) : Type 0 where
  pub homes : p.homes ≡ s.homes.items
  pub capacities : p.capacities ≡ s.capacities.items
  pub target : s.target ≡ k

-- it has the same nodes to serve as before, and the same to serve them by
pub record IsSame {N : Type 0} {G : Ghosts N} (old new : Scheduler N G) : Type 0 where
  pub count : node_count new.core ≡ node_count old.core
  pub homes : new.homes.items ≡ old.homes.items
  pub capacities : new.capacities.items ≡ old.capacities.items
  pub target : new.target ≡ old.target

-- however a part of a host tick ended: the scheduler serves the same, the keeper has the members and the head that it had, and the sink's count of
-- faults tells why it ended. Where it ended well, the core can go on, and
-- each node is queued at its count
pub record Leaves {N : Type 0} {G : Ghosts N} {H T : Type 0} (old new : Scheduler N G) (members members' : ℕ) (head head' : H) (before now : ℕ)
    (result : Result T TickFault) : Type 0 where
  pub same : IsSame old new
  pub members_same : members' ≡ members
  pub head_same : head' ≡ head
  pub ready : OnOk result (CanGo new.core)
  pub queued : OnOk result (IsQueued new)
  pub cause : TickCause before now result
