-- How each stage of a run of a file ends.
use Rattle.tb_top.proofs.Common.{◌∙◌, ℕ, List, refl, ap, subst, without_room, Fits, placed, host_setup, counts, items_of, Unopened, FilesSeen, AreRead, files_seen, File, Run}
use Rattle.tb_top.proofs.Endings.{unasked, unopened_ends, run_ends}
use Rattle.tb_top.proofs.tasks.run_file.Goals as goal

pub returns-in-Err-clause-ends : goal.returns-in-Err-clause-ends
returns-in-Err-clause-ends g c = λ words are. unasked c.in-Err.status refl (c.in-Err.ensures.refused words (Run c.args.host_ticks c.args.view) are)

pub returns-in-Err-fitting-clause-ends : goal.returns-in-Err-fitting-clause-ends
returns-in-Err-fitting-clause-ends g c = λ words are.
    c.in-Err-fitting.ensures.refused _ (File c.args.name.now) c.args.host_ticks c.args.view (record { command = are; from = c.in-Ok.ensures.from }) refl

pub returns-in-Err-open_files-clause-ends : goal.returns-in-Err-open_files-clause-ends
returns-in-Err-open_files-clause-ends g c = λ words are.
    let e = without_room c.in-Ok.experiment in
    rw c.open_status.ensures
    (unopened_ends (File c.args.name.now) c.args.host_ticks c.args.view e (record { command = are; from = c.in-Ok.ensures.from }) (subst (Fits e) c.in-Ok-fitting.ensures.placed c.in-Ok-fitting.ensures.fits)
    c.in-Err-open_files.fault refl
    (subst (λ (f : FilesSeen). Unopened f (files_seen g.F.Files c.open_files.new.files) (counts (items_of c.args.stock)) e c.in-Err-open_files.fault) c.in-Ok.ensures.same c.in-Err-open_files.ensures.unopened))

pub returns-clause-ends : goal.returns-clause-ends
returns-clause-ends g c = λ words are.
    let read = c.in-Ok.experiment in
    let n = c.args.host_ticks in
    let b = c.in-Ok-open_files.ensures.opened in
    let s = b.holds n in
    rw c.run_status.ensures
    (run_ends (File c.args.name.now) n c.args.view (without_room read) (record { command = are; from = c.in-Ok.ensures.from }) (subst (Fits (without_room read)) c.in-Ok-fitting.ensures.placed c.in-Ok-fitting.ensures.fits)
    b.inputs (subst (λ (f : FilesSeen). AreRead f.held read b.inputs) c.in-Ok.ensures.same b.loaded) b.enough c.run.result c.run.ensures.cause
    (c.run.ensures.runs (placed (without_room read)) b.inputs s.0 s.1 (s.2 ∙ ap (λ (q : List ℕ). host_setup read q n) c.in-Ok-fitting.ensures.placed)))
