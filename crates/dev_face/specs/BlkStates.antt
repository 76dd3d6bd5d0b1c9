-- What contracts see of a block device (virtio 1.2, section 5.2).
use Rattle.std.specs.Prelude.{ℕ, ◌-◌, ◌*◌, ◌<◌, ◌≤◌, Bool, false, Option, Some, None, List, [], ◌∷◌, ◌++◌, length, replicate}
use Rattle.virtio_regs.specs.declared.kind2.Kind2.TheVariants as virtio
use Rattle.virtio_regs.specs.Registers.{RegsState, opening_regs}
use Rattle.split_queue.specs.Chains.{ChainOf}
use Rattle.split_queue.specs.Queues.{Queue}
use Rattle.split_queue.specs.Streams.{ChainFits}
use Rattle.split_queue.specs.Taking.{QueueFits}
use Rattle.disk_model.specs.declared.disk_params.DiskParams.{DiskParams}
use Rattle.disk_model.specs.Server.{Server, CostsInLimits}

-- a request in flight: its chain, its type and sector, and its finish tick
pub record FlightState : Type 0 where
  pub chain : ChainOf
  pub kind : ℕ
  pub sector : ℕ
  pub finish : ℕ

-- a queue that is ready, and the requests in flight that came from it, in the order of their admission
pub record ActiveState : Type 0 where
  pub queue : Queue
  pub flying : List FlightState

pub record BlkState : Type 0 where
  -- the next tick that it begins
  pub coming : ℕ
  -- its number on its guest, and its virtio slot
  pub disk : ℕ
  pub slot : ℕ
  pub sectors : ℕ
  pub regs : RegsState
  -- the queue was notified
  pub notified : Bool
  -- None where the queue is not ready
  pub active : Option ActiveState
  pub server : Server
  -- the bytes of all sectors
  pub content : List ℕ

-- what a disk may be set up with
abbrev pub DiskInLimits : ℕ → DiskParams → List ℕ → ℕ → ℕ → Type 0
DiskInLimits sectors params content disk slot =
    (1 ≤ sectors) × (sectors ≤ 32768) × CostsInLimits params × (length content ≤ 512 * sectors) × (disk < 2) × (slot < 6)

-- a disk after `set_up`: its content is followed by zeros
abbrev pub opening_disk : ℕ → DiskParams → List ℕ → ℕ → ℕ → BlkState
opening_disk sectors params content disk slot = record {
  coming = 0;
  disk = disk;
  slot = slot;
  sectors = sectors;
  regs = opening_regs virtio.Blk;
  notified = false;
  active = None;
  server = record { costs = params; position = record { head = 0; free = 0 } };
  content = content ++ replicate (512 * sectors - length content) 0;
}

-- the requests' ranges lie in a RAM of n bytes
abbrev pub FlightsFit : ℕ → List FlightState → Type 0
FlightsFit n [] = Unit {0}
FlightsFit n (f ∷ fs) = ChainFits n f.chain × FlightsFit n fs

-- and so do the rings of the queue that they were taken from, where there is one
abbrev pub RingsUsed : ℕ → Queue → List FlightState → Type 0
RingsUsed n q [] = Unit {0}
RingsUsed n q (f ∷ fs) = QueueFits n q

pub record ActiveFits (n : ℕ) (a : ActiveState) : Type 0 where
  pub ranges : FlightsFit n a.flying
  pub rings : RingsUsed n a.queue a.flying

-- what is in flight lies in a RAM of n bytes
abbrev pub BlkFits : ℕ → Option ActiveState → Type 0
BlkFits n None = Unit {0}
BlkFits n (Some a) = ActiveFits n a
