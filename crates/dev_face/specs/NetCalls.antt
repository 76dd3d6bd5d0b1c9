-- What each call of a net device does (virtio 1.2, section 5.1).
use Rattle.std.specs.Prelude.{ℕ, zero, suc, ◌+◌, ◌-◌, ◌==◌, ◌&&◌, not, nat_le, nat_lt, if◌then◌else◌, Bool, true, false, Option, Some, None, List, [], ◌∷◌, ◌++◌, length, slice_range}
use Rattle.tb_base.specs.declared.width.Width.{Width}
use Rattle.tb_base.specs.declared.why.Why.{Why}
use Rattle.tb_base.specs.declared.why.Why.TheVariants.{ShortBuffer}
use Rattle.trace_rec.specs.declared.rec.Rec.{Rec}
use Rattle.trace_rec.specs.declared.what.What.{What}
use Rattle.trace_rec.specs.declared.what.What.TheVariants as what
use Rattle.split_queue.specs.Chains.{ChainOf}
use Rattle.split_queue.specs.Queues.{Queue, marked}
use Rattle.split_queue.specs.Streams.{stream, stream_len, written}
use Rattle.split_queue.specs.Taking.{took}
use Rattle.split_queue.specs.declared.took.Took.{Took}
use Rattle.split_queue.specs.declared.took.Took.TheVariants.{Chain, Empty, Broken}
use Rattle.virtio_regs.specs.declared.queue_set.QueueSet.{QueueSet}
use Rattle.virtio_regs.specs.declared.reg_done.RegDone.{RegDone}
use Rattle.virtio_regs.specs.declared.reg_done.RegDone.TheVariants as reg
use Rattle.virtio_regs.specs.Registers.{RegsState, is_live, broken, queue_of}
use Rattle.virtio_regs.specs.Loads.{reg_load}
use Rattle.virtio_regs.specs.Stores.{reg_store}
use Rattle.dev_face.specs.Configs.{config_value}
use Rattle.dev_face.specs.Queues.{is_refused, opened, Put, put_with, put_back, broken_rec}
use Rattle.dev_face.specs.NetStates.{NetState}

-- the MAC address: 02:00:00:00, the guest and the nic
abbrev pub mac : NetState → List ℕ
mac s = 2 ∷ 0 ∷ 0 ∷ 0 ∷ s.guest ∷ s.nic ∷ []

-- the registers, and from 0x100 on the configuration: the MAC address
abbrev pub net_load : NetState → ℕ → Width → Option ℕ
net_load s off width = if nat_lt off 0x100 then reg_load s.regs off width else Some (config_value (mac s) (off - 0x100) width)

abbrev pub set_opened : Option QueueSet → Option Queue
set_opened None = None
set_opened (Some q) = Some (opened q)

-- the nic after a store to its registers; the first queue receives, and the second transmits
abbrev pub net_after : NetState → RegsState → RegDone → NetState
net_after s regs reg.Done = record s { regs = regs }
net_after s regs (reg.Notified i) = record s { regs = regs; notified = if i == 1 then true else s.notified }
net_after s regs (reg.QueueUp i) =
    if i == 0 then record s { regs = regs; receives = set_opened (queue_of regs 0) } else record s { regs = regs; transmits = set_opened (queue_of regs 1) }
net_after s regs (reg.QueueDown i) = if i == 0 then record s { regs = regs; receives = None } else record s { regs = regs; transmits = None }
net_after s regs reg.Reset = record s { regs = regs; notified = false; receives = None; transmits = None }
net_after s regs reg.Fault = record s { regs = regs }

abbrev pub net_store : NetState → ℕ → Width → ℕ → NetState
net_store s off width v = if is_refused off width then s else net_after s (reg_store s.regs off width v).regs (reg_store s.regs off width v).done

abbrev pub rec_of : ℕ → What → Rec
rec_of now w = record { tick = now; what = w }

-- arriving frames join the backlog, or are lost where 64 wait
pub record Joined : Type 0 where
  pub backlog : List (List ℕ)
  pub recs : List Rec

abbrev pub with_lost : Rec → Joined → Joined
with_lost r x = record x { recs = r ∷ x.recs }

unfoldable pub joined : ℕ → ℕ → List (List ℕ) → List (List ℕ) → Joined
joined now nic backlog [] = record { backlog = backlog; recs = [] }
joined now nic backlog (f ∷ fs) =
    if nat_lt (length backlog) 64 then joined now nic (backlog ++ f ∷ []) fs else with_lost (rec_of now (what.Backlogged nic (length f))) (joined now nic backlog fs)

-- the header of every frame: ten zero bytes, and the number of buffers, which is one
abbrev pub net_header : List ℕ
net_header = 0 ∷ 0 ∷ 0 ∷ 0 ∷ 0 ∷ 0 ∷ 0 ∷ 0 ∷ 0 ∷ 0 ∷ 1 ∷ 0 ∷ []

-- what one chain did: whether it went well, and what is recorded
pub record Went : Type 0 where
  pub put : Put
  pub well : Bool
  pub recs : List Rec

-- the device breaks: it needs a reset
abbrev pub net_breaks : ℕ → ℕ → Put → Why → Went
net_breaks now slot w why = record { put = record w { regs = broken w.regs }; well = false; recs = broken_rec now slot why ∷ [] }

abbrev pub put_marked : Put → ChainOf → Put
put_marked w c = record w { queue = marked w.queue c.head }

-- RAM with a frame in the buffer of a chain
abbrev pub frame_put : List ℕ → ChainOf → List ℕ → List ℕ
frame_put ram c f = written (written ram c.writable 0 net_header) c.writable 12 f

abbrev pub on_buffer : ℕ → ℕ → ℕ → Put → List ℕ → Took → Went
on_buffer now nic slot w f Empty = record { put = w; well = false; recs = [] }
on_buffer now nic slot w f (Broken why) = net_breaks now slot w why
on_buffer now nic slot w f (Chain c) =
    if nat_lt (stream_len c.writable) (12 + length f) then net_breaks now slot (put_marked w c) ShortBuffer else record {
      put = put_back (record (put_marked w c) { ram = frame_put w.ram c f }) c.head (12 + length f);
      well = true;
      recs = rec_of now (what.Received nic f) ∷ [];
    }

-- a frame is put into the next buffer
unfoldable pub deliver_one : ℕ → ℕ → ℕ → Put → List ℕ → Went
deliver_one now nic slot w f = on_buffer now nic slot w f (took w.ram w.queue)

pub record Delivered : Type 0 where
  pub put : Put
  pub left : List (List ℕ)
  pub recs : List Rec

abbrev pub goes_on_delivering : Went → List (List ℕ) → (Put → Delivered) → Delivered
goes_on_delivering t fs rest =
    if t.well then record { put = (rest t.put).put; left = (rest t.put).left; recs = t.recs ++ (rest t.put).recs } else
    record { put = t.put; left = fs; recs = t.recs }

-- frames are put into buffers until there is none, or the device breaks
unfoldable pub delivered : ℕ → ℕ → ℕ → Put → List (List ℕ) → Delivered
delivered now nic slot w [] = record { put = w; left = []; recs = [] }
delivered now nic slot w (f ∷ fs) = goes_on_delivering (deliver_one now nic slot w f) (f ∷ fs) (λ p. delivered now nic slot p fs)

-- the nic and RAM after a tick began
pub record NetBegun : Type 0 where
  pub nic : NetState
  pub ram : List ℕ
  pub recs : List Rec

abbrev pub after_delivered : NetState → Delivered → NetBegun
after_delivered s x = record { nic = record s { regs = x.put.regs; receives = Some x.put.queue; backlog = x.left }; ram = x.put.ram; recs = x.recs }

abbrev pub deliver_to : NetState → ℕ → List ℕ → Option Queue → NetBegun
deliver_to s now ram None = record { nic = s; ram = ram; recs = [] }
deliver_to s now ram (Some q) =
    if is_live s.regs then after_delivered s (delivered now s.nic s.slot (put_with s.regs q ram) s.backlog) else record { nic = s; ram = ram; recs = [] }

abbrev pub recs_before : List Rec → NetBegun → NetBegun
recs_before recs x = record x { recs = recs ++ x.recs }

-- all frames that arrive join the backlog before any is delivered
abbrev pub begin_joined : NetState → ℕ → List ℕ → Joined → NetBegun
begin_joined s now ram j = recs_before j.recs (deliver_to (record s { coming = now + 1; backlog = j.backlog }) now ram s.receives)

abbrev pub net_begin : NetState → ℕ → List ℕ → List (List ℕ) → NetBegun
net_begin s now ram frames = begin_joined s now ram (joined now s.nic s.backlog frames)

-- what taking one chain to transmit did
pub record Sent : Type 0 where
  pub put : Put
  pub well : Bool
  pub frames : List (List ℕ)
  pub recs : List Rec

-- the frame of a chain behind its header, and the frame's length, 0 where there is no header
abbrev pub frame_len : ChainOf → ℕ
frame_len c = stream_len c.readable - 12

abbrev pub frame_in : List ℕ → ChainOf → List ℕ
frame_in ram c = slice_range (stream ram c.readable) 12 (12 + frame_len c)

abbrev pub is_frame_len : ℕ → Bool
is_frame_len n = nat_le 14 n && nat_le n 1514

-- the frame of a chain, and what is recorded of one whose length no frame has
abbrev pub frames_of : List ℕ → ChainOf → List (List ℕ)
frames_of ram c = if is_frame_len (frame_len c) then frame_in ram c ∷ [] else []

abbrev pub bad_recs : ℕ → ℕ → ChainOf → List Rec
bad_recs now nic c = if is_frame_len (frame_len c) then [] else rec_of now (what.BadFrame nic (frame_len c)) ∷ []

abbrev pub on_send : ℕ → ℕ → ℕ → Put → Took → Sent
on_send now nic slot w Empty = record { put = w; well = false; frames = []; recs = [] }
on_send now nic slot w (Broken why) = record { put = (net_breaks now slot w why).put; well = false; frames = []; recs = (net_breaks now slot w why).recs }
on_send now nic slot w (Chain c) = record { put = put_back (put_marked w c) c.head 0; well = true; frames = frames_of w.ram c; recs = bad_recs now nic c }

unfoldable pub send_one : ℕ → ℕ → ℕ → Put → Sent
send_one now nic slot w = on_send now nic slot w (took w.ram w.queue)

pub record AllSent : Type 0 where
  pub put : Put
  pub frames : List (List ℕ)
  pub recs : List Rec

abbrev pub goes_on_sending : Sent → (Put → AllSent) → AllSent
goes_on_sending t rest =
    if t.well then record { put = (rest t.put).put; frames = t.frames ++ (rest t.put).frames; recs = t.recs ++ (rest t.put).recs } else
    record { put = t.put; frames = t.frames; recs = t.recs }

-- chains are taken until there is none or the device breaks, but at most so many
unfoldable pub send_all : ℕ → ℕ → ℕ → ℕ → Put → AllSent
send_all now nic slot zero w = record { put = w; frames = []; recs = [] }
send_all now nic slot (suc k) w = goes_on_sending (send_one now nic slot w) (send_all now nic slot k)

-- the nic and RAM after a tick ended, and the frames that leave
pub record NetEnded : Type 0 where
  pub nic : NetState
  pub ram : List ℕ
  pub frames : List (List ℕ)
  pub recs : List Rec

abbrev pub after_sent : NetState → AllSent → NetEnded
after_sent s x = record {
  nic = record s { regs = x.put.regs; notified = false; transmits = Some x.put.queue };
  ram = x.put.ram;
  frames = x.frames;
  recs = x.recs;
}

-- frames are sent where the device is live, and the queue that transmits is ready and was notified
abbrev pub send_from : NetState → ℕ → List ℕ → Option Queue → NetEnded
send_from s now ram None = record { nic = s; ram = ram; frames = []; recs = [] }
send_from s now ram (Some q) =
    if is_live s.regs && s.notified then after_sent s (send_all now s.nic s.slot 65536 (put_with s.regs q ram)) else
    record { nic = s; ram = ram; frames = []; recs = [] }

abbrev pub net_end : NetState → ℕ → List ℕ → NetEnded
net_end s now ram = send_from s now ram s.transmits

-- the end of a tick would take no chain
abbrev pub sends_nothing : NetState → Option Queue → Bool
sends_nothing s None = true
sends_nothing s (Some q) = not (is_live s.regs && s.notified)

abbrev pub net_end_idle : NetState → Bool
net_end_idle s = sends_nothing s s.transmits

-- what begin would do next without an arriving frame: deliver what waits
abbrev pub delivers : NetState → Option Queue → Bool
delivers s None = false
delivers s (Some q) = is_live s.regs && nat_lt 0 (length s.backlog)

abbrev pub net_next : NetState → Option ℕ
net_next s = if delivers s s.receives then Some s.coming else None
