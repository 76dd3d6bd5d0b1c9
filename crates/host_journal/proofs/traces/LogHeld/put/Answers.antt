use Rattle.std.proofs.Common.{rules, ◌∙◌, List, subst}
use Rattle.trace_rec.specs.declared.rec.Rec.{Rec}
use Rattle.host_journal.specs.Standing.{Adds}
use Rattle.host_journal.specs.Traces.{guest_line, guest_trace, trace_lines}
use Rattle.host_journal.proofs.StandingLemmas.{adds_cut, adds_more}
use Rattle.host_journal.proofs.traces.LogHeld.put.Goals as goal

pub returns-in_err-put_line-clause-adds : goal.returns-in_err-put_line-clause-adds
returns-in_err-put_line-clause-adds g c = λ recs has.
    adds_cut c.args.failed.now c.put_line.new.failed (g.O.Sink.taken c.args.out.now) (g.O.Sink.taken c.put_line.new.out) (guest_line c.args.guest c.args.name.now) (trace_lines c.args.guest recs)
    c.in_err-put_line.ensures.err (c.in_err-put_line.ensures.adds (guest_line c.args.guest c.args.name.now) (search rules))

pub returns-clause-adds : goal.returns-clause-adds
returns-clause-adds g c = λ recs has.
    subst (λ (rs : List Rec). Adds c.args.failed.now (g.O.Sink.taken c.args.out.now) c.put_shown.new.failed (g.O.Sink.taken c.put_shown.new.out) (guest_trace c.args.guest c.args.name.now rs)) (c.as_slice.ensures ∙ has)
    (adds_more c.args.failed.now c.put_line.new.failed c.put_shown.new.failed (g.O.Sink.taken c.args.out.now) (g.O.Sink.taken c.put_line.new.out) (g.O.Sink.taken c.put_shown.new.out)
    (guest_line c.args.guest c.args.name.now) (trace_lines c.args.guest c.as_slice.result.now)
    (c.in_ok-put_line.ensures.adds (guest_line c.args.guest c.args.name.now) (search rules)) c.put_shown.ensures.adds)
