use Rattle.std.proofs.Common.{◌++◌, ◌∷◌, [], ◌∙◌, sym, ap, subst}
use Rattle.disk_model.specs.Service.{request}
use Rattle.disk_model.specs.Server.{Server, StandsFor}
use Rattle.disk_model.proofs.Pushed.{stands_admitted, answer_admitted, costs_admitted}
use Rattle.disk_model.proofs.disk_server.DiskServer.admit.Goals as goal

pub returns-clause-stands : goal.returns-clause-stands
returns-clause-stands c = λ h e.
    subst (λ (s : Server). StandsFor s (h ++ request c.args.now c.args.sector c.args.count ∷ [])) (sym c.serve.ensures.after) (stands_admitted c.args.self.now h c.args.now c.args.sector c.args.count e)

pub returns-clause-answer : goal.returns-clause-answer
returns-clause-answer c = λ h e.
    ap (λ (s : Server). s.position.free) c.self.view_is ∙ (ap (λ (s : Server). s.position.free) c.serve.ensures.after ∙ answer_admitted c.args.self.now h c.args.now c.args.sector c.args.count e)

pub returns-clause-costs : goal.returns-clause-costs
returns-clause-costs c = ap (λ (s : Server). s.costs) c.serve.ensures.after ∙ costs_admitted c.args.self.now c.args.now c.args.sector c.args.count
