-- One part of a host tick after another.
use Rattle.std.proofs.Common.{◌≡◌, ℕ, Result, Ok, Err, refl, sym, ◌∙◌, subst}
use Rattle.lookahead_core.specs.declared.node.Node.{Ghosts}
use Rattle.slot_sched.specs.BenchWords.{host_setup_from}
use Rattle.slot_sched.specs.Causes.{TickCause}
use Rattle.slot_sched.specs.Parts.{WorksBy, IsSame, Leaves}
use Rattle.slot_sched.specs.Schedule.{HostSetup}
use Rattle.slot_sched.specs.declared.fault.TickFault.{TickFault}
use Rattle.slot_sched.specs.declared.scheduler.Scheduler.{Scheduler}

module _ {N : Type 0} {G : Ghosts N} {old mid new : Scheduler N G} where
  same_then : IsSame old mid → IsSame mid new → IsSame old new
  same_then a b = record { count = b.count ∙ a.count; homes = b.homes ∙ a.homes; capacities = b.capacities ∙ a.capacities; target = b.target ∙ a.target }

  pub leaves_then : {H T U : Type 0} {m m' m2 : ℕ} {h h' h2 : H} {f f' f2 : ℕ} {t : T} {result : Result U TickFault} →
      Leaves old mid m m' h h' f f' (Ok t) → Leaves mid new m' m2 h' h2 f' f2 result → Leaves old new m m2 h h2 f f2 result
  leaves_then {f2 = f2} {result = result} a b = record {
    same = same_then a.same b.same;
    members_same = b.members_same ∙ a.members_same;
    head_same = b.head_same ∙ a.head_same;
    ready = b.ready;
    queued = b.queued;
    cause = subst (λ n. TickCause n f2 result) a.cause.ok b.cause;
  }

  -- what went well is gone on with
  pub leaves_more : {H T U V : Type 0} {m m' m2 : ℕ} {h h' h2 : H} {f f' f2 : ℕ} {t : T} {u : U} {v : V} →
      Leaves old mid m m' h h' f f' (Ok t) → Leaves {T = U} mid new m' m2 h' h2 f' f2 (Ok u) → Leaves {T = V} old new m m2 h h2 f f2 (Ok v)
  leaves_more a b = leaves_then a record {
    same = b.same;
    members_same = b.members_same;
    head_same = b.head_same;
    ready = b.ready;
    queued = b.queued;
    cause = record { later = b.cause.later; ok = b.cause.ok; no_memory = λ q. cc; failed = λ q. cc };
  }

  -- a fault is passed on
  pub leaves_failed : {H T U V : Type 0} {m m' m2 : ℕ} {h h' h2 : H} {f f' f2 : ℕ} {t : T} {e : TickFault} →
      Leaves old mid m m' h h' f f' (Ok t) → Leaves {T = U} mid new m' m2 h' h2 f' f2 (Err e) → Leaves {T = V} old new m m2 h h2 f f2 (Err e)
  leaves_failed a b = leaves_then a record {
    same = b.same;
    members_same = b.members_same;
    head_same = b.head_same;
    ready = tt;
    queued = tt;
    cause = record { later = b.cause.later; ok = tt; no_memory = λ q. b.cause.no_memory (cc); failed = λ q. b.cause.failed (cc) };
  }

module _ {N : Type 0} {G : Ghosts N} {old new : Scheduler N G} where
  -- it works with the same setup
  pub works_on : {p : HostSetup} {k : ℕ} → WorksBy old p k → IsSame old new → WorksBy new p k
  works_on w s = record { homes = w.homes ∙ sym s.homes; capacities = w.capacities ∙ sym s.capacities; target = s.target ∙ w.target }

  pub host_setup_same : (factor n : ℕ) → IsSame old new → host_setup_from new.homes.items new.capacities.items factor n ≡ host_setup_from old.homes.items old.capacities.items factor n
  host_setup_same factor n s = rw (s.homes, s.capacities) refl
