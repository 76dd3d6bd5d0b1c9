use Rattle.std.proofs.Common.{◌∙◌}
use Rattle.machine_cases.proofs.cases.running.make_tick.Goals as goal

pub loop-step-preserved : goal.loop-step-preserved
loop-step-preserved g c =
    let inv = c.loop-step.invariant in
    record {
      running = c.step.ensures.counted c.args.now c.loop-step._step inv.running;
      rate = c.step.ensures.rate ∙ inv.rate;
      nics = c.step.ensures.nics ∙ inv.nics;
    }
