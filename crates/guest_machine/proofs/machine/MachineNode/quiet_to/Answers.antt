use Rattle.std.proofs.Common.{◌≤◌, ◌^◌, max, sym, subst}
use Rattle.lookahead_core.specs.Quiet.{IsQuietTo}
use Rattle.guest_machine.specs.MachineView.{machine_state}
use Rattle.guest_machine.specs.Tick.{machine_motion}
use Rattle.guest_machine.proofs.IdleTicks.{is_before, answer_then, answer_else, quiet_at_most, machine_is_quiet}
use Rattle.guest_machine.proofs.machine.MachineNode.quiet_to.Goals as goal

pub returns-then-is_quiet-clause-value : goal.returns-then-is_quiet-clause-value
returns-then-is_quiet-clause-value g c n at =
    let now = c.args.self.now in
    answer_then (machine_state now) n c.is_quiet.result c.next_event.result c.next_tick-next.result c.max.result
    (is_before now.failed (machine_state now) n at now.sent now.told now.coming) c.if-is_quiet.true c.is_quiet.ensures c.next_event.ensures c.next_tick-next.ensures c.max.ensures

pub returns-then-is_quiet-clause-most : goal.returns-then-is_quiet-clause-most
returns-then-is_quiet-clause-most g c n at =
    subst (λ r. r ≤ max (2 ^ 40) n) (sym (returns-then-is_quiet-clause-value g c n at)) (quiet_at_most (machine_state c.args.self.now) n)

pub returns-then-is_quiet-clause-quiet : goal.returns-then-is_quiet-clause-quiet
returns-then-is_quiet-clause-quiet g c n at =
    let now = c.args.self.now in
    subst (IsQuietTo machine_motion (machine_state now) n) (sym (returns-then-is_quiet-clause-value g c n at))
    (machine_is_quiet (machine_state now) n (is_before now.failed (machine_state now) n at now.sent now.told now.coming))

pub returns-else-is_quiet-clause-value : goal.returns-else-is_quiet-clause-value
returns-else-is_quiet-clause-value g c n at =
    let now = c.args.self.now in
    answer_else (machine_state now) n c.is_quiet.result c.next_tick-next.result (is_before now.failed (machine_state now) n at now.sent now.told now.coming) c.if-is_quiet.false c.is_quiet.ensures c.next_tick-next.ensures
