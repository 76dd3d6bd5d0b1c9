-- The words ask for the task of the command that they give.
use Rattle.tb_top.proofs.Common.{◌∙◌, ap, arith, refl, subst, sym, no_memory, no_experiment, Usage, File, origin_of, task_of, texts, files_seen}
use Rattle.words_line.specs.Ranges.{IsInRange}
use Rattle.tb_top.proofs.top.work.Goals as goal

pub run_file-requires : goal.run_file-requires
run_file-requires g c =
    let few = subst IsInRange c.in-Run.is (c.commands_are_in_range.ensures.ranges (texts c.args.words.now) c.in-Ok.command c.in-Ok.ensures) in
    (omega arith, (few, c.requires.stock))

pub returns-in-Run-clause-ends : goal.returns-in-Run-clause-ends
returns-in-Run-clause-ends g c =
    c.run_file.ensures.ends (texts c.args.words.now)
    (record { given = c.in-Ok.command; read = c.in-Ok.ensures; origin = ap origin_of c.in-Run.is ∙ ap File (sym c.as_str.ensures); task_is = ap task_of c.in-Run.is })

pub returns-in-Plan-clause-ends : goal.returns-in-Plan-clause-ends
returns-in-Plan-clause-ends g c =
    c.plan_file.ensures.ends (texts c.args.words.now) _
    (record { given = c.in-Ok.command; read = c.in-Ok.ensures; origin = ap origin_of c.in-Plan.is ∙ ap File (sym c.as_str-in-Plan.ensures); task_is = ap task_of c.in-Plan.is })

pub run_load-requires : goal.run_load-requires
run_load-requires g c =
    let range = subst IsInRange c.in-Gen.is (c.commands_are_in_range.ensures.ranges (texts c.args.words.now) c.in-Ok.command c.in-Ok.ensures) in
    (omega arith, (range.0, (range.1, (range.2, c.requires.stock))))

pub returns-in-Gen-clause-ends : goal.returns-in-Gen-clause-ends
returns-in-Gen-clause-ends g c =
    c.run_load.ensures.ends (texts c.args.words.now) (files_seen g.F.Files c.args.files.now) (files_seen g.F.Files c.args.files.now)
    (record { given = c.in-Ok.command; read = c.in-Ok.ensures; origin = ap origin_of c.in-Gen.is; task_is = ap task_of c.in-Gen.is })

pub returns-in-Err-Fault-clause-ends : goal.returns-in-Err-Fault-clause-ends
returns-in-Err-Fault-clause-ends g c = let is = c.in-Err-Fault.field-0-is in rw is (no_experiment {s = Usage c.in-Err-Fault.fault} refl (rw is at c.in-Err-Fault.ensures))

pub returns-in-Err-NoMemory-clause-ends : goal.returns-in-Err-NoMemory-clause-ends
returns-in-Err-NoMemory-clause-ends g c = no_memory refl
