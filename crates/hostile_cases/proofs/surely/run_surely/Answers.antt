-- Over these files and this output the counts stand still.
use Rattle.hostile_cases.proofs.Ending.{faultless, still}
use Rattle.hostile_cases.proofs.surely.run_surely.Goals as goal

pub returns : goal.returns
returns g c =
    let e = c.diecast.ensures in
    record {
      faultless = faultless c.diecast.result still still e.ends;
      complete = λ x may enough. e.complete x may enough still still;
      planned = λ x asks. e.planned x asks still;
    }
