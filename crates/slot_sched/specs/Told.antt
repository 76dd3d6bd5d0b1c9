-- What a journal tells of a guest.
use Rattle.std.specs.Prelude.{◌≡◌, ℕ, List}
use Rattle.trace_rec.specs.Ticks.{AreOf}
use Rattle.lookahead_core.specs.Motion.{Motion}
use Rattle.lookahead_core.specs.Synchronous.{Setup, records_of}
use Rattle.host_journal.specs.Entries.{Entry}
use Rattle.host_journal.specs.Printed.{recs_of, units_of, count_of}
use Rattle.slot_sched.specs.Legal.{Rules}

-- its records are its trace up to the count that was printed last, and that count is what its units pay for
pub record Tells (r : Rules) (es : List Entry) (g : ℕ) : Type 0 where
  pub records : recs_of g es ≡ r.trace g (count_of g es)
  pub clock : count_of g es ≡ r.ticks_by g (units_of g es)

-- the records of each tick of the synchronous system name it
abbrev pub RecordsNameTicks : {S : Type 0} → Motion S → Setup S → Type 0
RecordsNameTicks m x = (g n : ℕ) → AreOf n (records_of m x g n)
