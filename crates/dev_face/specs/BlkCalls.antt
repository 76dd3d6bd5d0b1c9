-- What each call of a block device does (virtio 1.2, section 5.2).
use Rattle.std.specs.Prelude.{ℕ, zero, suc, ◌+◌, ◌-◌, ◌/◌, ◌&&◌, not, nat_le, nat_lt, if◌then◌else◌, Bool, true, false, Option, Some, None, List, [], ◌∷◌, ◌++◌}
use Rattle.std.specs.Int.{to_le_bytes, w64}
use Rattle.tb_base.specs.declared.width.Width.{Width}
use Rattle.tb_base.specs.declared.why.Why.{Why}
use Rattle.tb_base.specs.declared.why.Why.TheVariants.{ShortRequest}
use Rattle.trace_rec.specs.declared.rec.Rec.{Rec}
use Rattle.trace_rec.specs.declared.what.What.TheVariants as what
use Rattle.split_queue.specs.Chains.{ChainOf}
use Rattle.split_queue.specs.Queues.{Queue, marked}
use Rattle.split_queue.specs.Taking.{took}
use Rattle.split_queue.specs.declared.took.Took.{Took}
use Rattle.split_queue.specs.declared.took.Took.TheVariants.{Chain, Empty, Broken}
use Rattle.disk_model.specs.Server.{Server, admitted}
use Rattle.virtio_regs.specs.declared.queue_set.QueueSet.{QueueSet}
use Rattle.virtio_regs.specs.declared.reg_done.RegDone.{RegDone}
use Rattle.virtio_regs.specs.declared.reg_done.RegDone.TheVariants as reg
use Rattle.virtio_regs.specs.Registers.{RegsState, is_live, broken, queue_of}
use Rattle.virtio_regs.specs.Loads.{reg_load}
use Rattle.virtio_regs.specs.Stores.{reg_store}
use Rattle.dev_face.specs.Configs.{config_value}
use Rattle.dev_face.specs.Queues.{is_refused, opened, Put, put_with, put_back, broken_rec}
use Rattle.dev_face.specs.BlkStates.{FlightState, ActiveState, BlkState}
use Rattle.dev_face.specs.BlkRequests.{is_short, header, kind_in, sector_in, data_len, is_well_formed, status_of, used_len, ram_moved, content_moved, status_put}

-- the registers, and from 0x100 on the configuration: the number of sectors, in eight bytes
abbrev pub blk_load : BlkState → ℕ → Width → Option ℕ
blk_load s off width = if nat_lt off 0x100 then reg_load s.regs off width else Some (config_value (to_le_bytes w64 s.sectors) (off - 0x100) width)

-- a queue that became ready has nothing in flight
abbrev pub activated : Option QueueSet → Option ActiveState
activated None = None
activated (Some q) = Some (record { queue = opened q; flying = [] })

-- the disk after a store to its registers, which forgets the requests in flight where the queue goes down
abbrev pub blk_after : BlkState → RegsState → RegDone → BlkState
blk_after s regs reg.Done = record s { regs = regs }
blk_after s regs (reg.Notified i) = record s { regs = regs; notified = true }
blk_after s regs (reg.QueueUp i) = record s { regs = regs; active = activated (queue_of regs 0) }
blk_after s regs (reg.QueueDown i) = record s { regs = regs; active = None }
blk_after s regs reg.Reset = record s { regs = regs; notified = false; active = None }
blk_after s regs reg.Fault = record s { regs = regs }

abbrev pub blk_store : BlkState → ℕ → Width → ℕ → BlkState
blk_store s off width v = if is_refused off width then s else blk_after s (reg_store s.regs off width v).regs (reg_store s.regs off width v).done

-- what a tick's begin works on: the registers, the queue, the disk's bytes and RAM
pub record Work : Type 0 where
  pub regs : RegsState
  pub queue : Queue
  pub content : List ℕ
  pub ram : List ℕ

abbrev pub work_with : RegsState → Queue → List ℕ → List ℕ → Work
work_with regs queue content ram = record { regs = regs; queue = queue; content = content; ram = ram }

abbrev pub with_content : List ℕ → Put → Work
with_content content p = work_with p.regs p.queue content p.ram

-- a request is completed: its data moves, its status is put, and its chain is given back
abbrev pub complete_as : Work → FlightState → ℕ → Bool → Work
complete_as w f len good =
    let ram : List ℕ = status_put (ram_moved len good w.content w.ram f) f.chain (status_of f.kind good) in
    with_content (content_moved len good w.content w.ram f) (put_back (put_with w.regs w.queue ram) f.chain.head (used_len f.kind good f.chain))

abbrev pub is_good : ℕ → FlightState → Bool
is_good sectors f = is_well_formed sectors f.kind f.sector (data_len f.kind f.chain)

unfoldable pub completed : ℕ → Work → FlightState → Work
completed sectors w f = complete_as w f (data_len f.kind f.chain) (is_good sectors f)

abbrev pub done_rec : ℕ → ℕ → ℕ → FlightState → Rec
done_rec now disk sectors f =
    record { tick = now; what = what.DiskDone disk f.kind f.sector (data_len f.kind f.chain) (status_of f.kind (is_good sectors f)) }

-- what a tick's begin leaves: the requests that are still in flight, and what it records
pub record Served : Type 0 where
  pub work : Work
  pub left : List FlightState
  pub recs : List Rec

abbrev pub with_rec : Rec → Served → Served
with_rec r x = record x { recs = r ∷ x.recs }

-- the requests whose finish tick is reached complete, in the order of their admission, in which finish ticks never fall
unfoldable pub served : ℕ → ℕ → ℕ → Work → List FlightState → Served
served now disk sectors w [] = record { work = w; left = []; recs = [] }
served now disk sectors w (f ∷ fs) =
    if nat_le f.finish now then with_rec (done_rec now disk sectors f) (served now disk sectors (completed sectors w f) fs) else
    record { work = w; left = f ∷ fs; recs = [] }

-- the disk and RAM after a tick began, and what is recorded
pub record BlkBegun : Type 0 where
  pub disk : BlkState
  pub ram : List ℕ
  pub recs : List Rec

abbrev pub work_of : BlkState → ActiveState → List ℕ → Work
work_of s a ram = work_with s.regs a.queue s.content ram

abbrev pub after_served : BlkState → ℕ → Served → BlkBegun
after_served s now x = record {
  disk = record s { coming = now + 1; regs = x.work.regs; active = Some (record { queue = x.work.queue; flying = x.left }); content = x.work.content };
  ram = x.work.ram;
  recs = x.recs;
}

abbrev pub begin_active : BlkState → ℕ → List ℕ → Option ActiveState → BlkBegun
begin_active s now ram None = record { disk = record s { coming = now + 1 }; ram = ram; recs = [] }
begin_active s now ram (Some a) = after_served s now (served now s.disk s.sectors (work_of s a ram) a.flying)

abbrev pub blk_begin : BlkState → ℕ → List ℕ → BlkBegun
blk_begin s now ram = begin_active s now ram s.active

-- what a tick's end works on
pub record Intake : Type 0 where
  pub regs : RegsState
  pub queue : Queue
  pub server : Server
  pub flying : List FlightState

abbrev pub intake_with : RegsState → Queue → Server → List FlightState → Intake
intake_with regs queue server flying = record { regs = regs; queue = queue; server = server; flying = flying }

-- what taking one chain did: whether there may be more, and what is recorded
pub record TakenOne : Type 0 where
  pub intake : Intake
  pub goes_on : Bool
  pub recs : List Rec

-- the device breaks: it needs a reset, and the requests in flight are forgotten
abbrev pub breaks : ℕ → ℕ → Intake → Why → TakenOne
breaks now slot x why = record { intake = record x { regs = broken x.regs; flying = [] }; goes_on = false; recs = broken_rec now slot why ∷ [] }

-- a request is admitted to the server: a well formed one with its sector and count, every other at the head with no sector
abbrev pub admitted_as : Server → ℕ → ℕ → ℕ → Bool → Server
admitted_as server now sector len good = if good then admitted server now sector (len / 512) else admitted server now server.position.head 0

-- the request that was admitted last
abbrev pub flight_of : ChainOf → ℕ → ℕ → Server → FlightState
flight_of c kind sector server = record { chain = c; kind = kind; sector = sector; finish = server.position.free }

abbrev pub takes_flight : Intake → ChainOf → ℕ → ℕ → Server → Intake
takes_flight x c kind sector server = record x { server = server; flying = x.flying ++ flight_of c kind sector server ∷ [] }

abbrev pub admit_request : ℕ → ℕ → Intake → ChainOf → ℕ → ℕ → Intake
admit_request now sectors x c kind sector =
    takes_flight x c kind sector (admitted_as x.server now sector (data_len kind c) (is_well_formed sectors kind sector (data_len kind c)))

abbrev pub with_mark : Intake → ChainOf → Intake
with_mark x c = record x { queue = marked x.queue c.head }

abbrev pub on_took : ℕ → ℕ → ℕ → List ℕ → Intake → Took → TakenOne
on_took now slot sectors ram x Empty = record { intake = x; goes_on = false; recs = [] }
on_took now slot sectors ram x (Broken why) = breaks now slot x why
on_took now slot sectors ram x (Chain c) =
    if is_short c then breaks now slot (with_mark x c) ShortRequest else record {
      intake = admit_request now sectors (with_mark x c) c (kind_in (header ram c)) (sector_in (header ram c));
      goes_on = true;
      recs = [];
    }

-- one chain is taken, where there is one
unfoldable pub take_one : ℕ → ℕ → ℕ → List ℕ → Intake → TakenOne
take_one now slot sectors ram x = on_took now slot sectors ram x (took ram x.queue)

pub record Taken : Type 0 where
  pub intake : Intake
  pub recs : List Rec

abbrev pub goes_on_with : TakenOne → (Intake → Taken) → Taken
goes_on_with t rest = if t.goes_on then rest t.intake else record { intake = t.intake; recs = t.recs }

-- chains are taken until there is none or the device breaks, but at most so many
unfoldable pub take_all : ℕ → ℕ → ℕ → List ℕ → ℕ → Intake → Taken
take_all now slot sectors ram zero x = record { intake = x; recs = [] }
take_all now slot sectors ram (suc k) x = goes_on_with (take_one now slot sectors ram x) (take_all now slot sectors ram k)

-- the disk after a tick ended, and what is recorded
pub record BlkEnded : Type 0 where
  pub disk : BlkState
  pub recs : List Rec

abbrev pub after_taken : BlkState → Taken → BlkEnded
after_taken s x = record {
  disk = record s { regs = x.intake.regs; notified = false; active = Some (record { queue = x.intake.queue; flying = x.intake.flying }); server = x.intake.server };
  recs = x.recs;
}

abbrev pub intake_of : BlkState → ActiveState → Intake
intake_of s a = intake_with s.regs a.queue s.server a.flying

-- requests are admitted where the device is live, and its queue is ready and was notified
abbrev pub end_active : BlkState → ℕ → List ℕ → Option ActiveState → BlkEnded
end_active s now ram None = record { disk = s; recs = [] }
end_active s now ram (Some a) =
    if is_live s.regs && s.notified then after_taken s (take_all now s.slot s.sectors ram 65536 (intake_of s a)) else record { disk = s; recs = [] }

abbrev pub blk_end : BlkState → ℕ → List ℕ → BlkEnded
blk_end s now ram = end_active s now ram s.active

-- the end of a tick would take no chain
abbrev pub idle_with : BlkState → Option ActiveState → Bool
idle_with s None = true
idle_with s (Some a) = not (is_live s.regs && s.notified)

abbrev pub blk_end_idle : BlkState → Bool
blk_end_idle s = idle_with s s.active

-- the finish tick of the first request in flight, which is the least
abbrev pub first_finish : List FlightState → Option ℕ
first_finish [] = None
first_finish (f ∷ fs) = Some f.finish

abbrev pub blk_next : Option ActiveState → Option ℕ
blk_next None = None
blk_next (Some a) = first_finish a.flying
