use Rattle.std.proofs.Common.{refl, sym, ◌∙◌, ap, subst}
use Rattle.dev_face.specs.States.{DevState, kind_of, IsComing}
use Rattle.net_cases.proofs.nic.ready.Goals as goal

pub returns : goal.returns
returns c =
    let e = c.bring_up.ensures in
    let opened = c.in_ok-set_up.ensures.ok in
    record { is_nic = e.kind ∙ ap kind_of opened; coming = λ n. e.coming 0 n (subst (λ (s : DevState). IsComing 0 n s) (sym opened) (record { set_up = refl; next = refl; flies = tt })) }
