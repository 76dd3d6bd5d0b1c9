use Rattle.host_journal.specs.Summaries.{summary_title, guest_summary}
use Rattle.host_journal.specs.Traces.{traces_title, guest_trace}
use Rattle.run_views.proofs.Slots.{slots_do_not_show}
use Rattle.run_views.proofs.law.traces_do_not_depend_on_slots.Goals as goal

pub returns-clause-traces : goal.returns-clause-traces
returns-clause-traces c = λ d e i j p q m n h k es fs. slots_do_not_show traces_title guest_trace d e i j p q m n h k

pub returns-clause-summary : goal.returns-clause-summary
returns-clause-summary c = λ d e i j p q m n h k es fs. slots_do_not_show summary_title guest_summary d e i j p q m n h k
