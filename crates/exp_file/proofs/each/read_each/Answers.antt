use Rattle.std.proofs.Common.{arith, sym, ap, ◌∙◌, ◌∷◌, [], ◌++◌, subst}
use Rattle.toml.specs.View.{view}
use Rattle.exp_file.specs.Keys.{Fails}
use Rattle.exp_file.proofs.Steps.{goes_on, stops}
use Rattle.exp_file.proofs.each.read_each.Goals as goal

pub loop-value-preserved : goal.loop-value-preserved
loop-value-preserved g c = record {
  kept =
      subst (λ z. g.S.Step.keeps c.args.step.now z) (sym c.in-Ok-push.ensures.ok)
      (subst (λ z. g.S.Step.keeps c.args.step.now (z ++ c.in-Ok.item ∷ [])) c.as_slice.ensures c.in-Ok.ensures.kept);
  along = goes_on (g.S.Step.says c.args.step.now) c.loop-value.items.items c.push.new.self.items c.args.values.now c.loop-value.value-index c.value-item.result c.in-Ok.item
      (omega arith) c.value-item.is c.loop-value.invariant.along (ap (λ x. g.S.Step.says c.args.step.now x (view c.value-item.result)) (sym c.as_slice.ensures) ∙ c.in-Ok.ensures.given) c.in-Ok-push.ensures.ok;
}

pub returns-in-Err-clause-given : goal.returns-in-Err-clause-given
returns-in-Err-clause-given g c =
    stops (g.S.Step.says c.args.step.now) c.loop-value.items.items c.args.values.now c.loop-value.value-index c.value-item.result c.in-Err.e
    (omega arith) c.value-item.is c.loop-value.invariant.along (subst (λ z. Fails c.in-Err.e (g.S.Step.says c.args.step.now z (view c.value-item.result))) c.as_slice.ensures c.in-Err.ensures.given)
