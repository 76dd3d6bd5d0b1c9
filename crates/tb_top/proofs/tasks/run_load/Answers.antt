-- How each stage of a run of a generated load ends.
use Rattle.tb_top.proofs.Common.{◌≡◌, ◌∙◌, ℕ, List, refl, sym, ap, arith, subst, without_room, Fits, placed, host_setup, counts, items_of, AreImages, images_alone, no_memory, Load}
use Rattle.trace_rec.specs.declared.view.View.TheVariants.{Summary}
use Rattle.open_images.specs.Openings.{Unbuilt}
use Rattle.tb_top.proofs.Endings.{unopened_ends, run_ends}
use Rattle.tb_top.proofs.tasks.run_load.Goals as goal

pub open_load-requires : goal.open_load-requires
open_load-requires g c =
    let e = c.in-Ok.load.experiment in
    let images = subst (AreImages e) (sym (c.as_slice-images.ensures ∙ c.in-Ok.ensures.images)) (c.loads_are_taken.ensures.taken c.args.n e c.in-Ok.ensures.experiment) in
    (omega arith, (c.in-Ok.ensures.well_formed, (c.in-Ok-fitting.ensures.placement, (c.in-Ok-fitting.ensures.fits, (images, c.requires.stock)))))

pub returns-in-Err-NoMemory-clause-ends : goal.returns-in-Err-NoMemory-clause-ends
returns-in-Err-NoMemory-clause-ends g c = λ words files files_after are. no_memory refl

pub returns-in-Err-clause-ends : goal.returns-in-Err-clause-ends
returns-in-Err-clause-ends g c = λ words files files_after are.
    c.in-Err.ensures.refused _ (Load c.args.n) c.args.host_ticks Summary (record { command = are; from = c.in-Ok.ensures.experiment }) refl

pub returns-in-Err-open_load-clause-ends : goal.returns-in-Err-open_load-clause-ends
returns-in-Err-open_load-clause-ends g c = λ words files files_after are.
    let e = without_room c.in-Ok.load.experiment in
    rw c.open_status.ensures
    (unopened_ends (Load c.args.n) c.args.host_ticks Summary e (record { command = are; from = c.in-Ok.ensures.experiment }) (subst (Fits e) c.in-Ok-fitting.ensures.placed c.in-Ok-fitting.ensures.fits)
    c.in-Err-open_load.fault refl
    (subst (λ (l : List (List ℕ)). Unbuilt (λ i. i ≡ images_alone l) (counts (items_of c.args.stock)) e c.in-Err-open_load.fault) (c.as_slice-images.ensures ∙ c.in-Ok.ensures.images) c.in-Err-open_load.ensures.unopened))

pub returns-clause-ends : goal.returns-clause-ends
returns-clause-ends g c = λ words files files_after are.
    let e = c.in-Ok.load.experiment in
    let n = c.args.host_ticks in
    let b = c.in-Ok-open_load.ensures.opened in
    let s = b.holds n in
    rw c.run_status.ensures
    (run_ends (Load c.args.n) n Summary (without_room e) (record { command = are; from = c.in-Ok.ensures.experiment }) (subst (Fits (without_room e)) c.in-Ok-fitting.ensures.placed c.in-Ok-fitting.ensures.fits)
    b.inputs (b.loaded ∙ ap images_alone (c.as_slice-images.ensures ∙ c.in-Ok.ensures.images)) b.enough c.run.result c.run.ensures.cause
    (c.run.ensures.runs (placed (without_room e)) b.inputs s.0 s.1 (s.2 ∙ ap (λ (q : List ℕ). host_setup e q n) c.in-Ok-fitting.ensures.placed)))
