-- The boxes are counted.
use Rattle.std.proofs.Common.{◌≡◌, ℕ, [], ◌∷◌, arith, subst}
use Rattle.bench_build.specs.Stocks.{counts}
use Rattle.dev_face.specs.contracts.boxed.BoxDynDeviceDevice.TheImpl.{state-value}
use Rattle.dev_face.specs.declared.kind.Kind.{Kind}
use Rattle.tb_top.specs.Ends.{Ends, Completes}
use Rattle.tb_top.specs.Headline.{Headline}
use Rattle.tb_top.specs.World.{World, texts, world}
use Rattle.diecast.specs.Boxes.{boxes}
use Rattle.diecast.proofs.Supplied.{AreFew, boxes_counted, boxes_suffice, is_stock, supplied}
use Rattle.diecast.proofs.boxes.run_with.OwnLists.{own-1, lawful-own-1}
use Rattle.diecast.proofs.boxes.run_with.Goals as goal

pub diecast-requires : goal.diecast-requires
diecast-requires g c = record {
  stock = is_stock (state-value (own-1, lawful-own-1)).it c.loop.clints.items c.loop.uarts.items c.loop-2.blks.items c.loop-3.nets.items
      c.loop.invariant.clints c.loop.invariant.uarts c.loop-2.invariant.blks c.loop-3.invariant.nets;
}

pub returns : goal.returns
returns g c =
    let few : AreFew = record {
      guests = c.guests_are_few.ensures.few;
      disks = c.disks_are_few.ensures.few;
      nics = c.nics_are_few.ensures.few;
      loads = c.loads_are_right.ensures.well_formed;
    } in
    let given = c.experiments_are_given.ensures in
    let s = c.diecast.result in
    let w : World = world (texts c.args.words.now) g.F.Files c.args.files.now c.diecast.new.files g.O.Sink c.args.out.now c.diecast.new.out boxes in
    let same : counts (c.loop.clints.items ∷ c.loop.uarts.items ∷ c.loop-2.blks.items ∷ c.loop-3.nets.items ∷ []) ≡ boxes =
    boxes_counted c.loop.clints.items c.loop.uarts.items c.loop-2.blks.items c.loop-3.nets.items (omega arith) (omega arith) (omega arith) (omega arith) in
    let ends : Ends w s = subst (λ (n : Kind → ℕ). Ends (record w { stock = n }) s) same c.diecast.ensures.ends in
    let complete : Completes w s = subst (λ (n : Kind → ℕ). Completes (record w { stock = n }) s) same c.diecast.ensures.complete in
    record {
      ends = ends;
      headline = subst (λ (n : Kind → ℕ). Headline (record w { stock = n }) s) same c.diecast.ensures.headline;
      complete = λ e may files out. complete e may (boxes_suffice few e (given.runs w.words w.files.held e may)) files out;
      planned = c.diecast.ensures.planned;
      told = c.diecast.ensures.told;
      supplied = λ kind wanted had no_device. supplied few kind wanted had (given.short w kind wanted had (subst (Ends w) no_device ends));
    }
