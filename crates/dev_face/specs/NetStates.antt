-- What contracts see of a net device (virtio 1.2, section 5.1).
use Rattle.std.specs.Prelude.{ℕ, ◌<◌, Bool, false, Option, None, List, []}
use Rattle.virtio_regs.specs.declared.kind2.Kind2.TheVariants as virtio
use Rattle.virtio_regs.specs.Registers.{RegsState, opening_regs}
use Rattle.split_queue.specs.Queues.{Queue}

pub record NetState : Type 0 where
  -- the next tick that it begins
  pub coming : ℕ
  -- its guest, its number on it, and its virtio slot
  pub guest : ℕ
  pub nic : ℕ
  pub slot : ℕ
  pub regs : RegsState
  -- the queue that transmits was notified
  pub notified : Bool
  -- the queue that receives and the one that transmits; None where it is not ready
  pub receives : Option Queue
  pub transmits : Option Queue
  -- frames that have arrived and wait for a buffer
  pub backlog : List (List ℕ)

-- what a nic may be set up with
abbrev pub NicInLimits : ℕ → ℕ → ℕ → Type 0
NicInLimits guest nic slot = (guest < 32) × (nic < 4) × (slot < 6)

-- a nic after `set_up`
abbrev pub opening_nic : ℕ → ℕ → ℕ → NetState
opening_nic guest nic slot = record {
  coming = 0;
  guest = guest;
  nic = nic;
  slot = slot;
  regs = opening_regs virtio.Net;
  notified = false;
  receives = None;
  transmits = None;
  backlog = [];
}
