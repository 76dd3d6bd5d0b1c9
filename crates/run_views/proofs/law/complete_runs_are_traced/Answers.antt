use Rattle.run_views.proofs.Common.{refl, setup, host_setup}
use Rattle.host_journal.specs.Printed.{count_of, up_to_tick}
use Rattle.run_views.proofs.law.complete_runs_are_traced.Goals as goal

pub returns : goal.returns
returns g c = record {
  traced = λ e slots i n es complete t few g lt.
      let p = host_setup e slots n in
      let told = c.journals_tell_traces.ensures.up_to (setup e i) p es t g complete in
      let far = c.journals_tell_traces.ensures.done (setup e i) p es t g complete few lt in
      record { virtual_tick = count_of g (up_to_tick t es); records = told.records; far_enough = far; counted = refl; paid = told.clock };
}
