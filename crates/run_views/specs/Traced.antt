-- What the entries of a run tell of a guest.
use Rattle.std.specs.Prelude.{◌≡◌, ℕ, ◌/◌, ◌≤◌, List}
use Rattle.exp_file.specs.declared.experiment.Experiment.{Experiment}
use Rattle.lookahead_core.specs.Synchronous.{trace, ticks_by}
use Rattle.guest_machine.specs.Tick.{machine_motion}
use Rattle.host_journal.specs.Entries.{Entry}
use Rattle.host_journal.specs.Printed.{recs_of, units_of, count_of}
use Rattle.bench_build.specs.Inputs.{Inputs}
use Rattle.bench_build.specs.Setups.{setup}

-- the records that some entries print of guest g are its trace in the synchronous system up to some virtual tick, at least t / factor. It is the count that was
-- printed last of the guest, and what the units printed of it pay for, so the entries fix it
pub record IsTraced (e : Experiment) (i : Inputs) (t g : ℕ) (es : List Entry) : Type 0 where
  pub virtual_tick : ℕ
  pub records : recs_of g es ≡ trace machine_motion (setup e i) g virtual_tick
  pub far_enough : t / e.factor ≤ virtual_tick
  pub counted : virtual_tick ≡ count_of g es
  pub paid : virtual_tick ≡ ticks_by machine_motion (setup e i) g (units_of g es)
