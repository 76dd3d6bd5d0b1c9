use Rattle.std.proofs.Common.{◌≡◌, length}
use Rattle.machine_cases.proofs.cases.running.put_program.Given as goal

abbrev pub invariant-loop-op : goal.invariant-loop-op
invariant-loop-op l = record { size : length l.ram ≡ length l.fn.ram }
