-- A nic does nothing in a tick in which no frame arrives and none that waits can be delivered, and at the end of one in which
-- its queue is not notified.
use Rattle.std.proofs.Common.{◌≡◌, ℕ, ◌+◌, ◌<◌, ◌≤◌, Bool, true, false, cond, ◌&&◌, Option, Some, None, List, [], ◌∷◌, length, refl, sym, ◌∙◌, ap, arith}
use Rattle.std.specs.Prelude.{IfSome, nat_lt}
use Rattle.std.proofs.lemmas.Bool.{cond-false, not-true}
use Rattle.std.proofs.lemmas.Bool.Decides.{nat_tests}
use Rattle.virtio_regs.specs.Registers.{is_live}
use Rattle.split_queue.specs.Queues.{Queue}
use Rattle.dev_face.specs.Queues.{Put, put_with}
use Rattle.dev_face.specs.NetStates.{NetState}
use Rattle.dev_face.specs.NetCalls.{joined, delivered, after_delivered, deliver_to, recs_before, begin_joined, net_begin, delivers, net_next, send_from, net_end, sends_nothing, net_end_idle}

-- nothing waits, where what is due next is later than the next tick
delivers_not : (b : Bool) (coming now : ℕ) → coming ≤ now → IfSome (cond b (Some coming) None) (λ due. now < due) → b ≡ false
delivers_not true coming now le h = absurd (omega (arith, le, h))
delivers_not false coming now le h = refl

joined_none : (now nic : ℕ) (backlog : List (List ℕ)) → joined now nic backlog [] ≡ record { backlog = backlog; recs = [] }
unfolding joined
joined_none now nic backlog = refl

delivered_none : (now nic slot : ℕ) (w : Put) → delivered now nic slot w [] ≡ record { put = w; left = []; recs = [] }
unfolding delivered
delivered_none now nic slot w = refl

none_wait : (n : ℕ) → nat_lt 0 n ≡ false → n ≡ 0
none_wait n h = grind (arith, nat_tests)

-- where the nic is live, nothing waits
delivered_to : (live : Bool) (s : NetState) (now : ℕ) (ram : List ℕ) (q : Queue) (waiting : List (List ℕ)) → s.receives ≡ Some q → s.backlog ≡ waiting → (live && nat_lt 0 (length waiting)) ≡ false →
    cond live (after_delivered s (delivered now s.nic s.slot (put_with s.regs q ram) waiting)) (record { nic = s; ram = ram; recs = [] }) ≡ record { nic = s; ram = ram; recs = [] }
delivered_to false s now ram q waiting e b h = refl
delivered_to true s now ram q [] e b h =
    ap (after_delivered s) (delivered_none now s.nic s.slot (put_with s.regs q ram))
    ∙ ap (λ (o : Option Queue). record { nic = record s { receives = o; backlog = [] }; ram = ram; recs = [] }) (sym e)
    ∙ ap (λ (fs : List (List ℕ)). record { nic = record s { backlog = fs }; ram = ram; recs = [] }) (sym b)
delivered_to true s now ram q (f ∷ fs) e b h = absurd (omega (arith, none_wait (length (f ∷ fs)) h))

delivers_to : (s : NetState) (now : ℕ) (ram : List ℕ) (o : Option Queue) → s.receives ≡ o → delivers s o ≡ false → deliver_to s now ram o ≡ record { nic = s; ram = ram; recs = [] }
delivers_to s now ram None e h = refl
delivers_to s now ram (Some q) e h = delivered_to (is_live s.regs) s now ram q s.backlog e refl h

pub net_begun : (s : NetState) (n now : ℕ) (ram : List ℕ) → s.coming ≡ n → n ≤ now → IfSome (net_next s) (λ due. now < due) →
    net_begin (record s { coming = now }) now ram [] ≡ record { nic = record s { coming = now + 1 }; ram = ram; recs = [] }
net_begun s n now ram c le h =
    ap (begin_joined (record s { coming = now }) now ram) (joined_none now s.nic s.backlog)
    ∙ ap (recs_before []) (delivers_to (record s { coming = now + 1 }) now ram s.receives refl (delivers_not (delivers s s.receives) s.coming now (omega (arith, c, le)) h))

sent_nothing : (s : NetState) (now : ℕ) (ram : List ℕ) (o : Option Queue) → sends_nothing s o ≡ true → send_from s now ram o ≡ record { nic = s; ram = ram; frames = []; recs = [] }
sent_nothing s now ram None e = refl
sent_nothing s now ram (Some q) e = cond-false (is_live s.regs && s.notified) _ _ (not-true (is_live s.regs && s.notified) e)

pub net_ended : (s : NetState) (now : ℕ) (ram : List ℕ) → net_end_idle s ≡ true → net_end s now ram ≡ record { nic = s; ram = ram; frames = []; recs = [] }
net_ended s now ram e = sent_nothing s now ram s.transmits e
