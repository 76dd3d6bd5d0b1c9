-- What a nic records in a tick names it.
use Rattle.std.proofs.Common.{ℕ, zero, suc, ◌+◌, ◌&&◌, true, Option, Some, None, List, [], ◌∷◌, ◌++◌, length, refl}
use Rattle.std.specs.Prelude.{nat_lt}
use Rattle.trace_rec.specs.Ticks.{AreOf}
use Rattle.trace_rec.specs.declared.rec.Rec.{Rec}
use Rattle.trace_rec.specs.declared.what.What.TheVariants as what
use Rattle.tb_base.specs.declared.why.Why.TheVariants.{ShortBuffer}
use Rattle.split_queue.specs.Chains.{ChainOf}
use Rattle.split_queue.specs.Queues.{Queue}
use Rattle.split_queue.specs.Streams.{stream_len}
use Rattle.split_queue.specs.Taking.{took}
use Rattle.split_queue.specs.declared.took.Took.{Took}
use Rattle.split_queue.specs.declared.took.Took.TheVariants.{Chain, Empty, Broken}
use Rattle.virtio_regs.specs.Registers.{is_live}
use Rattle.dev_face.specs.Queues.{Put, put_with, put_back}
use Rattle.dev_face.specs.NetStates.{NetState}
use Rattle.dev_face.specs.NetCalls.{rec_of, Joined, with_lost, joined, Went, net_breaks, put_marked, frame_put, on_buffer, deliver_one, Delivered, goes_on_delivering, delivered, NetBegun, after_delivered, deliver_to, begin_joined, net_begin, Sent, frame_len, is_frame_len, bad_recs, on_send, send_one, AllSent, goes_on_sending, send_all, NetEnded, after_sent, send_from, net_end}
use Rattle.dev_face.proofs.Recorded.{are_of_both, are_of_either}

joined_of : (now nic : ℕ) (backlog frames : List (List ℕ)) → AreOf now (joined now nic backlog frames).recs
unfolding joined
joined_of now nic backlog [] = tt
joined_of now nic backlog (f ∷ fs) =
    are_of_either now (λ (x : Joined). x.recs) (nat_lt (length backlog) 64)
    (joined now nic (backlog ++ f ∷ []) fs) (with_lost (rec_of now (what.Backlogged nic (length f))) (joined now nic backlog fs))
    (joined_of now nic (backlog ++ f ∷ []) fs) (refl, joined_of now nic backlog fs)

buffer_of : (now nic slot : ℕ) (w : Put) (f : List ℕ) (t : Took) → AreOf now (on_buffer now nic slot w f t).recs
buffer_of now nic slot w f Empty = tt
buffer_of now nic slot w f (Broken why) = (refl, tt)
buffer_of now nic slot w f (Chain c) =
    are_of_either now (λ (t : Went). t.recs) (nat_lt (stream_len c.writable) (12 + length f)) (net_breaks now slot (put_marked w c) ShortBuffer)
    (record { put = put_back (record (put_marked w c) { ram = frame_put w.ram c f }) c.head (12 + length f); well = true; recs = rec_of now (what.Received nic f) ∷ [] })
    (refl, tt) (refl, tt)

deliver_one_of : (now nic slot : ℕ) (w : Put) (f : List ℕ) → AreOf now (deliver_one now nic slot w f).recs
unfolding deliver_one
deliver_one_of now nic slot w f = buffer_of now nic slot w f (took w.ram w.queue)

delivering_of : (now : ℕ) (t : Went) (fs : List (List ℕ)) (rest : Put → Delivered) → AreOf now t.recs → ((p : Put) → AreOf now (rest p).recs) → AreOf now (goes_on_delivering t fs rest).recs
delivering_of now t fs rest p q =
    are_of_either now (λ (x : Delivered). x.recs) t.well
    (record { put = (rest t.put).put; left = (rest t.put).left; recs = t.recs ++ (rest t.put).recs }) (record { put = t.put; left = fs; recs = t.recs })
    (are_of_both now t.recs (rest t.put).recs p (q t.put)) p

delivered_of : (now nic slot : ℕ) (w : Put) (fs : List (List ℕ)) → AreOf now (delivered now nic slot w fs).recs
unfolding delivered
delivered_of now nic slot w [] = tt
delivered_of now nic slot w (f ∷ fs) =
    delivering_of now (deliver_one now nic slot w f) (f ∷ fs) (λ p. delivered now nic slot p fs) (deliver_one_of now nic slot w f) (λ p. delivered_of now nic slot p fs)

deliver_to_of : (s : NetState) (now : ℕ) (ram : List ℕ) (o : Option Queue) → AreOf now (deliver_to s now ram o).recs
deliver_to_of s now ram None = tt
deliver_to_of s now ram (Some q) =
    are_of_either now (λ (x : NetBegun). x.recs) (is_live s.regs)
    (after_delivered s (delivered now s.nic s.slot (put_with s.regs q ram) s.backlog)) (record { nic = s; ram = ram; recs = [] })
    (delivered_of now s.nic s.slot (put_with s.regs q ram) s.backlog) tt

begin_joined_of : (s : NetState) (now : ℕ) (ram : List ℕ) (j : Joined) → AreOf now j.recs → AreOf now (begin_joined s now ram j).recs
begin_joined_of s now ram j p =
    let there : NetState = record s { coming = now + 1; backlog = j.backlog } in
    are_of_both now j.recs (deliver_to there now ram s.receives).recs p (deliver_to_of there now ram s.receives)

pub net_begin_of : (s : NetState) (now : ℕ) (ram : List ℕ) (frames : List (List ℕ)) → AreOf now (net_begin s now ram frames).recs
net_begin_of s now ram frames = begin_joined_of s now ram (joined now s.nic s.backlog frames) (joined_of now s.nic s.backlog frames)

bad_of : (now nic : ℕ) (c : ChainOf) → AreOf now (bad_recs now nic c)
bad_of now nic c = are_of_either now (λ (rs : List Rec). rs) (is_frame_len (frame_len c)) [] (rec_of now (what.BadFrame nic (frame_len c)) ∷ []) tt (refl, tt)

on_send_of : (now nic slot : ℕ) (w : Put) (t : Took) → AreOf now (on_send now nic slot w t).recs
on_send_of now nic slot w Empty = tt
on_send_of now nic slot w (Broken why) = (refl, tt)
on_send_of now nic slot w (Chain c) = bad_of now nic c

send_one_of : (now nic slot : ℕ) (w : Put) → AreOf now (send_one now nic slot w).recs
unfolding send_one
send_one_of now nic slot w = on_send_of now nic slot w (took w.ram w.queue)

sending_of : (now : ℕ) (t : Sent) (rest : Put → AllSent) → AreOf now t.recs → ((p : Put) → AreOf now (rest p).recs) → AreOf now (goes_on_sending t rest).recs
sending_of now t rest p q =
    are_of_either now (λ (x : AllSent). x.recs) t.well
    (record { put = (rest t.put).put; frames = t.frames ++ (rest t.put).frames; recs = t.recs ++ (rest t.put).recs }) (record { put = t.put; frames = t.frames; recs = t.recs })
    (are_of_both now t.recs (rest t.put).recs p (q t.put)) p

send_all_of : (now nic slot k : ℕ) (w : Put) → AreOf now (send_all now nic slot k w).recs
unfolding send_all
send_all_of now nic slot zero w = tt
send_all_of now nic slot (suc k) w =
    sending_of now (send_one now nic slot w) (send_all now nic slot k) (send_one_of now nic slot w) (send_all_of now nic slot k)

send_from_of : (s : NetState) (now : ℕ) (ram : List ℕ) (o : Option Queue) → AreOf now (send_from s now ram o).recs
send_from_of s now ram None = tt
send_from_of s now ram (Some q) =
    are_of_either now (λ (x : NetEnded). x.recs) (is_live s.regs && s.notified)
    (after_sent s (send_all now s.nic s.slot 65536 (put_with s.regs q ram))) (record { nic = s; ram = ram; frames = []; recs = [] })
    (send_all_of now s.nic s.slot 65536 (put_with s.regs q ram)) tt

pub net_end_of : (s : NetState) (now : ℕ) (ram : List ℕ) → AreOf now (net_end s now ram).recs
net_end_of s now ram = send_from_of s now ram s.transmits
