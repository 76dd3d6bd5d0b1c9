use Rattle.std.proofs.Common.{◌≡◌, ◌≤◌, ◌*◌, ◌-◌, All, length, false, ap, sym, ◌∙◌, subst, arith}
use Rattle.dev_face.specs.States.{IsComing}
use Rattle.dev_list.specs.Sending.{NoneLeaves}
use Rattle.dev_list.proofs.Skipped.{coming_all}
use Rattle.rv_exec.specs.HartState.{HartState}
use Rattle.guest_machine.specs.MachineView.{machine_state}
use Rattle.guest_machine.specs.MemoryMap.{MapState}
use Rattle.guest_machine.specs.Stretch.{IsBefore, idle_hart, machine_quiet}
use Rattle.guest_machine.specs.Tick.{MachineState}
use Rattle.guest_machine.proofs.Clocks.{not_both}
use Rattle.guest_machine.proofs.IdleTicks.{is_before, leads_on, may_skip, stretched, stretch_fits, waits}
use Rattle.guest_machine.proofs.machine.MachineNode.skip_to.Goals as goal

pub overflow_mul-from : goal.overflow_mul-from
overflow_mul-from g c =
    let now = c.args.self.now in
    let n = c.requires.idle.0 in
    let is : IsBefore (machine_state now) n = is_before now.failed (machine_state now) n c.requires.idle.1 now.sent now.told now.coming in
    let l = leads_on (machine_state now) n c.args.to (omega (arith, c.if-ticks-gt0.true, c.next_tick.ensures, is.tick)) c.requires.idle.3 in
    record { fits = stretch_fits c.from.result (c.args.to - c.next_tick.result) (omega (arith, c.from.ensures, now.rate_in_range.1)) (omega (arith, l.early)) }

pub skip_to-requires-clause-quiet : goal.skip_to-requires-clause-quiet
skip_to-requires-clause-quiet g c =
    let now = c.args.self.now in
    let n = c.requires.idle.0 in
    let is : IsBefore (machine_state now) n = is_before now.failed (machine_state now) n c.requires.idle.1 now.sent now.told now.coming in
    may_skip (machine_state now) n c.args.to is (omega (arith, c.if-ticks-gt0.true, c.next_tick.ensures, is.tick)) c.requires.idle.3

pub skip_to-requires-clause-later : goal.skip_to-requires-clause-later
skip_to-requires-clause-later g c =
    let now = c.args.self.now in
    let n = c.requires.idle.0 in
    let is : IsBefore (machine_state now) n = is_before now.failed (machine_state now) n c.requires.idle.1 now.sent now.told now.coming in
    omega (arith, is.tick, c.requires.idle.2)

pub skip_to-requires-clause-early : goal.skip_to-requires-clause-early
skip_to-requires-clause-early g c =
    let now = c.args.self.now in
    let n = c.requires.idle.0 in
    let is : IsBefore (machine_state now) n = is_before now.failed (machine_state now) n c.requires.idle.1 now.sent now.told now.coming in
    let l = leads_on (machine_state now) n c.args.to (omega (arith, c.if-ticks-gt0.true, c.next_tick.ensures, is.tick)) c.requires.idle.3 in
    omega (arith, l.early)

pub invariant_of-self : goal.invariant_of-self
invariant_of-self g c =
    let now = c.args.self.now in
    let n = c.requires.idle.0 in
    let is : IsBefore (machine_state now) n = is_before now.failed (machine_state now) n c.requires.idle.1 now.sent now.told now.coming in
    let begun : c.skip_to.new.self.begun ≡ false = ap (λ (m : MapState). m.begun) c.skip_to.ensures ∙ is.begun in
    record {
      rate_in_range = now.rate_in_range;
      room = λ f b. not_both b begun;
      early = λ f b. not_both b begun;
      sent = λ f. ap (λ (m : MapState). m.sent) c.skip_to.ensures ∙ now.sent f;
      told = λ f b. now.told f is.begun;
      waiting = λ f. subst (λ (m : MapState). All (NoneLeaves m.tick) m.pipes) (sym c.skip_to.ensures) (waits (machine_state now) n c.args.to (omega (arith, c.if-ticks-gt0.true, c.next_tick.ensures, is.tick)) c.requires.idle.3);
      coming = λ f b. subst (λ (m : MapState). All (IsComing m.tick (length m.ram)) m.devices) (sym c.skip_to.ensures) (coming_all n c.args.to (length now.map.ram) now.map.devices is.coming);
    }

pub returns-then-ticks-gt0-clause-state : goal.returns-then-ticks-gt0-clause-state
returns-then-ticks-gt0-clause-state g c n at =
    let now = c.args.self.now in
    let s : MachineState = machine_state now in
    let to = c.args.to in
    let first : IsBefore s c.requires.idle.0 = is_before now.failed s c.requires.idle.0 c.requires.idle.1 now.sent now.told now.coming in
    let is : IsBefore s n = is_before now.failed s n at now.sent now.told now.coming in
    let low : n ≤ to = omega (arith, first.tick, is.tick, c.requires.idle.2) in
    let quiet : to ≤ machine_quiet s n = subst (λ t. to ≤ machine_quiet s t) (sym first.tick ∙ is.tick) c.requires.idle.3 in
    let passed : c.from.result * (to - c.next_tick.result) ≡ s.rate * (to - n) =
    ap (λ r. r * (to - c.next_tick.result)) c.from.ensures ∙ ap (λ t. s.rate * (to - t)) (c.next_tick.ensures ∙ is.tick) in
    ap (λ (h : HartState). record s { hart = h; map = c.skip_to.new.self }) (c.pass_idle.ensures.passed ∙ ap (idle_hart s.hart) passed)
    ∙ ap (λ (m : MapState). record s { hart = idle_hart s.hart (s.rate * (to - n)); map = m }) c.skip_to.ensures
    ∙ stretched s n to is c.pass_idle.ensures.within low quiet
