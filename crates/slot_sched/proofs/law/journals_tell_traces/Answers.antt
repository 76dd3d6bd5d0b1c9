-- A run's rules start with no tick and no record.
use Rattle.std.proofs.Common.{refl}
use Rattle.host_journal.specs.Printed.{up_to_tick}
use Rattle.slot_sched.specs.Legal.{start}
use Rattle.slot_sched.specs.Schedule.{rules}
use Rattle.slot_sched.proofs.Early.{early_told}
use Rattle.slot_sched.proofs.Telling.{tells, kept_up, legal_up_to, past_complete}
use Rattle.slot_sched.proofs.law.journals_tell_traces.Goals as goal

pub returns-clause-told : goal.returns-clause-told
returns-clause-told g c = λ x p es legal i. tells (rules g.N.Node.motion x p) es i (record { ticks = refl; trace = refl }) legal

pub returns-clause-kept_up : goal.returns-clause-kept_up
returns-clause-kept_up g c = λ x p es t i legal past few lt. kept_up (rules g.N.Node.motion x p) es t i (record { ticks = refl; trace = refl }) legal past few lt

pub returns-clause-early : goal.returns-clause-early
returns-clause-early g c = early_told g.N.Node.motion

pub returns-clause-up_to : goal.returns-clause-up_to
returns-clause-up_to g c = λ x p es t i complete.
    let r = rules g.N.Node.motion x p in tells r (up_to_tick t es) i (record { ticks = refl; trace = refl }) (legal_up_to r es start t complete.legal)

pub returns-clause-done : goal.returns-clause-done
returns-clause-done g c = λ x p es t i complete few lt.
    let r = rules g.N.Node.motion x p in kept_up r es t i (record { ticks = refl; trace = refl }) complete.legal (past_complete r es t complete) few lt
