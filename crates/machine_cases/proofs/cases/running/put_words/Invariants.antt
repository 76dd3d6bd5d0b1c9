use Rattle.std.proofs.Common.{◌≡◌, length}
use Rattle.machine_cases.proofs.cases.running.put_words.Given as goal

abbrev pub invariant-loop-word : goal.invariant-loop-word
invariant-loop-word l = record { size : length l.ram ≡ length l.fn.ram }
