-- A store keeps the next tick of a nic, which has nothing in flight.
use Rattle.std.proofs.Common.{◌≡◌, ℕ, ◌==◌, Bool, true, false, cond, Option, Some, sym, subst}
use Rattle.tb_base.specs.declared.width.Width.{Width}
use Rattle.virtio_regs.specs.declared.reg_done.RegDone.{RegDone}
use Rattle.virtio_regs.specs.declared.reg_done.RegDone.TheVariants as reg
use Rattle.virtio_regs.specs.Registers.{RegsState}
use Rattle.virtio_regs.specs.Stores.{reg_store}
use Rattle.dev_face.specs.States.{NetAt, IsComing}
use Rattle.dev_face.specs.NetStates.{NetState}
use Rattle.dev_face.specs.Queues.{is_refused}
use Rattle.dev_face.specs.NetCalls.{net_after, net_store}
use Rattle.net_dev.specs.declared.card.Card.{Card}
use Rattle.net_dev.specs.CardView.{card_state}
use Rattle.net_dev.specs.NicView.{state_of}

either : (b : Bool) (s t : NetState) (tick n : ℕ) → IsComing tick n (NetAt s) → IsComing tick n (NetAt t) → IsComing tick n (NetAt (cond b s t))
either true s t tick n h k = h
either false s t tick n h k = k

after_coming : (s : NetState) (regs : RegsState) (d : RegDone) (tick n : ℕ) → IsComing tick n (NetAt s) → IsComing tick n (NetAt (net_after s regs d))
after_coming s regs reg.Done tick n h = record { set_up = h.set_up; next = h.next; flies = tt }
after_coming s regs (reg.Notified i) tick n h = record { set_up = h.set_up; next = h.next; flies = tt }
after_coming s regs (reg.QueueUp i) tick n h = either (i == 0) _ _ tick n (record { set_up = h.set_up; next = h.next; flies = tt }) (record { set_up = h.set_up; next = h.next; flies = tt })
after_coming s regs (reg.QueueDown i) tick n h = either (i == 0) _ _ tick n (record { set_up = h.set_up; next = h.next; flies = tt }) (record { set_up = h.set_up; next = h.next; flies = tt })
after_coming s regs reg.Reset tick n h = record { set_up = h.set_up; next = h.next; flies = tt }
after_coming s regs reg.Fault tick n h = record { set_up = h.set_up; next = h.next; flies = tt }

pub stored_coming : (o : Option Card) (d : Card) (s : NetState) (off : ℕ) (width : Width) (v tick n : ℕ) → o ≡ Some d → s ≡ net_store (card_state d) off width v → IsComing tick n (state_of o) → IsComing tick n (NetAt s)
stored_coming o d s off width v tick n there is h =
    let was : IsComing tick n (NetAt (card_state d)) = subst (λ (x : Option Card). IsComing tick n (state_of x)) there h in
    subst (λ (x : NetState). IsComing tick n (NetAt x)) (sym is)
    (either (is_refused off width) (card_state d) _ tick n was (after_coming (card_state d) (reg_store d.regs off width v).regs (reg_store d.regs off width v).done tick n was))
