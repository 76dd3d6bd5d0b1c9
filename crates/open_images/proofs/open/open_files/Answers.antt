-- What was read is built, or there are too few devices.
use Rattle.open_images.proofs.Common.{ℕ, Kind, without_room, Experiment, Inputs, IsUnbuilt, counts, items_of, BuildFault, NoDevice, NoMemory, Unopened, FilesSeen, AreRead, files_seen, build_fault}
use Rattle.open_images.proofs.open.open_files.Goals as goal

short : (old new : FilesSeen) (had : Kind → ℕ) (e : Experiment) (i : Inputs) → AreRead old.held e i → (fault : BuildFault) → IsUnbuilt e had fault → Unopened old new had (without_room e) (build_fault fault)
short old new had e i read (NoDevice k wanted n) h = record { inputs = i; loaded = read; holds = record { wanted = h.wanted; had_is = h.had_is; short = h.short; before = h.before } }
short old new had e i read NoMemory h = tt
short old new had e i read _ h = absurd h

pub returns-in-Err-clause-unopened : goal.returns-in-Err-clause-unopened
returns-in-Err-clause-unopened g c = c.in-Err.ensures.missed (counts (items_of c.args.stock))

pub returns-in-Ok-finish-clause-opened : goal.returns-in-Ok-finish-clause-opened
returns-in-Ok-finish-clause-opened g c =
    let t = c.in-Ok.ensures.taken in
    record {
      inputs = t.inputs;
      loaded = t.loaded;
      enough = record { of = (c.in-Ok-finish.ensures.stock _ _ t.inputs t.building).of };
      holds = λ n. let s = c.in-Ok-finish.ensures.stands _ _ t.inputs n t.building in (s.0, s.1, c.in-Ok-finish.ensures.host_setup _ _ t.inputs n t.building);
    }

pub returns-in-Err-finish-clause-unopened : goal.returns-in-Err-finish-clause-unopened
returns-in-Err-finish-clause-unopened g c =
    let t = c.in-Ok.ensures.taken in
    rw c.build_fault.ensures
    (short (files_seen g.F.Files c.args.files.now) (files_seen g.F.Files c.load.new.files) (counts (items_of c.args.stock)) c.args.e.now t.inputs t.loaded
    c.in-Err-finish.fault (c.in-Err-finish.ensures.fault _ _ t.inputs t.building))
