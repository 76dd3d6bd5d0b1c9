use Rattle.std.proofs.Common.{rules, [], ◌∷◌, ◌++◌, Bool, subst}
use Rattle.std.proofs.lemmas.Result.{on_ok_weaker}
use Rattle.host_journal.proofs.StandingLemmas.{entry_added}
use Rattle.host_journal.specs.Entries.{End}
use Rattle.host_journal.specs.Parts.{stands_part}
use Rattle.host_journal.specs.Standing.{Stands}
use Rattle.host_journal.specs.Texts.{end_line, entries_text}
use Rattle.host_journal.proofs.journal_keep.JournalKeepShow.finish.Goals as goal

pub returns-clause-part : goal.returns-clause-part
returns-clause-part g c = λ before es stands.
    stands_part c.put_line.new.failed before (g.O.Sink.taken c.put_line.new.out) (entries_text c.args.self.now.view c.args.self.now.head (es ++ End ∷ []))
    (entry_added c.args.self.now.failed c.put_line.new.failed (g.O.Sink.taken c.args.out.now) (g.O.Sink.taken c.put_line.new.out) c.args.self.now.view c.args.self.now.head
    End (c.put_line.ensures.adds (end_line c.args.self.now.head.host_ticks) (search rules)) before es stands)

pub returns-clause-whole : goal.returns-clause-whole
returns-clause-whole g c = on_ok_weaker c.put_line.result (λ whole. λ before es stands.
    subst (λ (f : Bool). Stands f before (g.O.Sink.taken c.put_line.new.out) (entries_text c.args.self.now.view c.args.self.now.head (es ++ End ∷ []))) whole.1
    (entry_added c.args.self.now.failed c.put_line.new.failed (g.O.Sink.taken c.args.out.now) (g.O.Sink.taken c.put_line.new.out) c.args.self.now.view c.args.self.now.head
    End (c.put_line.ensures.adds (end_line c.args.self.now.head.host_ticks) (search rules)) before es stands)) c.put_line.ensures.ok
