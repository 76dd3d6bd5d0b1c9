-- What the keeper stands for is what out has taken.
use Rattle.run_views.proofs.Common.{◌≡◌, ℕ, List, [], ◌∷◌, ◌++◌, Option, Result, Ok, Err, OnOk, ap, ◌∙◌, subst, Takes, TakesPart, Entry, End, Rules, IsLegal, IsComplete, Shows, PutsCut, RunPuts}
use Rattle.tb_io.specs.declared.write_err.WriteErr.{WriteErr}
use Rattle.slot_sched.specs.BenchWords.{host_setup_of}
use Rattle.slot_sched.specs.Schedule.{rules as rules_of}
use Rattle.run_views.proofs.runs.put_run.Goals as goal

-- by a keeper that shows a text: what it has put, and the whole of its text, which stayed what it was
module _ (r : Rules) (was_whole was_shown whole shown text : List Entry → List ℕ) (shows : Shows r was_whole was_shown text) (old new : Option (List ℕ)) where
  -- a run that was cut short put a first part of a legal journal
  cut : shown ≡ was_shown → (es : List Entry) → IsLegal r es → TakesPart old new (shown es) → PutsCut text r old new
  cut same es legal part = (es, legal, shows.before old new es (subst (λ (t : List Entry → List ℕ). TakesPart old new (t es)) same part))

  -- what a keeper put whose entries came to the end of the run
  finished : (keeps : Option (List ℕ) → List Entry → Type 0) (result : Result (Unit {0}) WriteErr) → whole ≡ was_whole
      → (es : List Entry) → IsComplete r (es ++ End ∷ []) → keeps old es
      → OnOk result ((before : Option (List ℕ)) (kept : List Entry) → keeps before kept → Takes before new (whole (kept ++ End ∷ [])))
      → ((before : Option (List ℕ)) (kept : List Entry) → keeps before kept → TakesPart before new (whole (kept ++ End ∷ [])))
      → RunPuts text r old new result
  finished keeps (Ok _) same es complete kept all part =
      (es ++ End ∷ [], complete, subst (λ (t : List ℕ). Takes old new t) (ap (λ (t : List Entry → List ℕ). t (es ++ End ∷ [])) same ∙ shows.at_last (es ++ End ∷ []) complete) (all old es kept))
  finished keeps (Err _) same es complete kept all part =
      (es ++ End ∷ [], complete.legal, subst (λ (t : List ℕ). TakesPart old new t) (ap (λ (t : List Entry → List ℕ). t (es ++ End ∷ [])) same ∙ shows.at_last (es ++ End ∷ []) complete) (part old es kept))

pub returns-in-Err-clause-puts : goal.returns-in-Err-clause-puts
returns-in-Err-clause-puts g c = λ x text stands tick shows.
    cut (rules_of g.N.Node.motion x (host_setup_of c.args.bench c.args.host_ticks)) (g.K.Show.text c.args.keep.now) (g.K.Show.shown c.args.keep.now) (g.K.Show.text c.start.new.self) (g.K.Show.shown c.start.new.self)
    text shows (g.O.Sink.taken c.args.out.now) (g.O.Sink.taken c.start.new.out)
    (g.met.K.Show.same_shown c.start.new.self c.args.keep.now c.in-Err.ensures.head)
    [] tt (g.met.K.Show.part c.start.new.self _ _ [] (c.in-Err.ensures.stands c.requires.made))

pub returns-in-Err-run-clause-puts : goal.returns-in-Err-run-clause-puts
returns-in-Err-run-clause-puts g c = λ x text stands tick shows.
    let found = c.in-Err-run.ensures.stopped x _ stands tick c.requires.fresh (c.in-Ok.ensures.stands c.requires.made) in
    cut (rules_of g.N.Node.motion x (host_setup_of c.args.bench c.args.host_ticks)) (g.K.Show.text c.args.keep.now) (g.K.Show.shown c.args.keep.now) (g.K.Show.text c.run.new.keep) (g.K.Show.shown c.run.new.keep)
    text shows (g.O.Sink.taken c.args.out.now) (g.O.Sink.taken c.run.new.out)
    (g.met.K.Show.same_shown c.run.new.keep c.args.keep.now (c.in-Err-run.ensures.head ∙ c.in-Ok.ensures.head))
    found.0 found.2 (g.met.K.Show.part c.run.new.keep _ _ found.0 found.1)

pub returns-clause-puts : goal.returns-clause-puts
returns-clause-puts g c = λ x text stands tick shows.
    let found = c.in-Ok-run.ensures.complete x _ stands tick c.requires.fresh (c.in-Ok.ensures.stands c.requires.made) in
    finished (rules_of g.N.Node.motion x (host_setup_of c.args.bench c.args.host_ticks)) (g.K.Show.text c.args.keep.now) (g.K.Show.shown c.args.keep.now) (g.K.Show.text c.run.new.keep) (g.K.Show.shown c.run.new.keep)
    text shows (g.O.Sink.taken c.args.out.now) (g.O.Sink.taken c.finish.new.out)
    (λ before es. g.K.Keep.keeps c.run.new.keep before (g.O.Sink.taken c.run.new.out) es) c.finish.result
    (g.met.K.Show.same c.run.new.keep c.args.keep.now (c.in-Ok-run.ensures.head ∙ c.in-Ok.ensures.head)) found.0 found.2 found.1 c.finish.ensures.whole c.finish.ensures.part
