-- All that is said of a command follows from how it ends.
use Rattle.tb_top.proofs.Common.{Ends, World, sizes, texts, world}
use Rattle.tb_top.proofs.Claims.{Laws, completes, ends_told, headline, planned, unfailed_told}
use Rattle.tb_top.proofs.top.diecast.Goals as goal

pub returns : goal.returns
returns g c =
    let w : World = world (texts c.args.words.now) g.F.Files c.args.files.now c.work-status.new.files g.O.Sink c.args.out.now c.work-status.new.out (sizes c.args.stock) in
    let ends : Ends w c.tell.result = ends_told {w = w} c.work-status.ensures.ends c.tell.ensures.status in
    let unfailed = unfailed_told c.work-status.ensures.unfailed c.tell.ensures.status in
    let laws : Laws = record { ranges = c.commands_are_in_range.ensures.ranges; fits = c.loads_are_right.ensures.fits; traced = c.complete_runs_are_traced.ensures.traced } in
    record {
      ends = ends;
      headline = headline {w = w} laws ends unfailed;
      complete = completes {w = w} laws ends;
      planned = planned {w = w} ends;
      unfailed = unfailed;
      told = c.tell.ensures.told;
    }
