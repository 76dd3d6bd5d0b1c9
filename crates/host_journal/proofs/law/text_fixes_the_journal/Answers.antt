use Rattle.host_journal.proofs.TextLemmas.{journal_same}
use Rattle.host_journal.proofs.law.text_fixes_the_journal.Goals as goal

pub returns-clause-journal : goal.returns-clause-journal
returns-clause-journal c = λ h k es fs p q v w e. (journal_same h k es fs p q v w e).1

pub returns-clause-numbers : goal.returns-clause-numbers
returns-clause-numbers c = λ h k es fs p q v w e. (journal_same h k es fs p q v w e).0
