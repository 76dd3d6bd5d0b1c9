use Rattle.run_views.proofs.Common.{ℕ, List, [], inr, Entry, guests_of, setup, host_setup, run_rules, text}
use Rattle.run_views.proofs.Shown.{guests_show, put_by}
use Rattle.run_views.proofs.runs.put_guests.Goals as goal

pub returns-clause-runs : goal.returns-clause-runs
returns-clause-runs g c = λ view e slots i head of stands tick plans.
    let n = c.args.host_ticks in
    let h = c.args.keep.head in
    let r = run_rules e slots i n in
    let shows = guests_show g.H.Held.title g.H.Held.shown view e n h r head of
    (λ j k t complete. c.journals_tell_traces.ensures.early (setup e i) (host_setup e slots n) j k t (c.records_name_their_tick.ensures (setup e i)) complete) in
    let whole : List Entry → List ℕ = guests_of g.H.Held.title g.H.Held.shown h in
    let t : List Entry → List ℕ = text view h r in
    inr (h, head, put_by (setup e i) whole (λ _. []) t (g.O.Sink.taken c.args.out.now) (g.O.Sink.taken c.put_run.new.out) c.put_run.result plans (c.put_run.ensures.puts (setup e i) t stands tick) shows)
