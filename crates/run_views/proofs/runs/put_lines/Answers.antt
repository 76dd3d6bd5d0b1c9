-- A keeper of lines shows its text at any time.
use Rattle.run_views.proofs.Common.{◌≡◌, ◌⊎◌, List, ℕ, inl, inr, refl, View, Journal, Events, Entry, Head, Rules, setup, run_rules, Shows, text}
use Rattle.host_journal.specs.Texts.{entries_text}
use Rattle.run_views.proofs.Shown.{put_by}
use Rattle.run_views.proofs.runs.put_lines.Goals as goal

-- the text of lines of which all is shown is that of the view
is_shown : (r : Rules) (v view : View) (h head : Head) → v ≡ view → h ≡ head → (view ≡ Journal) ⊎ (view ≡ Events) → Shows r (entries_text v h) (entries_text v h) (text view head r)
is_shown r v view h head same_view same lines =
    rw (same_view, same) (elim lines [ inl is ↦ rw is (record { at_last = λ j complete. refl; before = λ old new j part. part }) | inr is ↦ rw is (record { at_last = λ j complete. refl; before = λ old new j part. part }) ])

pub returns-in-Ok-clause-runs : goal.returns-in-Ok-clause-runs
returns-in-Ok-clause-runs g c = λ e slots i head stands tick plans.
    let r = run_rules e slots i c.args.host_ticks in
    let shows = is_shown r c.in-Ok.keep.view c.args.view c.in-Ok.keep.head c.args.head c.in-Ok.ensures.view c.in-Ok.ensures.head c.requires.lines in
    let whole : List Entry → List ℕ = entries_text c.in-Ok.keep.view c.in-Ok.keep.head in
    let t : List Entry → List ℕ = text c.args.view c.args.head r in
    inr (c.args.head, head, put_by (setup e i) whole whole t (g.O.Sink.taken c.args.out.now) (g.O.Sink.taken c.put_run.new.out) c.put_run.result plans (c.put_run.ensures.puts (setup e i) t stands tick) shows)
