-- The registers of one queue (virtio 1.2, section 4.2.2).
use Rattle.std.specs.Prelude.{◌≡◌, ℕ, ◌+◌, ◌*◌, ◌%◌, ◌^◌, ◌≤◌, nat_le, ◌==◌, ◌&&◌, not, if◌then◌else◌, Bool, false}
use Rattle.virtio_regs.specs.declared.queue_set.QueueSet.{QueueSet}
use Rattle.virtio_regs.specs.declared.reg_done.RegDone.{RegDone}
use Rattle.virtio_regs.specs.declared.reg_done.RegDone.TheVariants as done

pub record QueueState : Type 0 where
  pub num : ℕ
  pub ready : Bool
  pub desc_low : ℕ
  pub desc_high : ℕ
  pub driver_low : ℕ
  pub driver_high : ℕ
  pub device_low : ℕ
  pub device_high : ℕ

-- a size that a queue can have: a power of two from 1 to 64, which are those up to 64 that divide 65536
abbrev pub IsQueueSize : ℕ → Type 0
IsQueueSize n = (1 ≤ n) × (n ≤ 64) × (65536 % n ≡ 0)

-- the same as a test
abbrev pub is_queue_size : ℕ → Bool
is_queue_size n = nat_le 1 n && nat_le n 64 && 65536 % n == 0

-- a queue at reset
abbrev pub opening_queue : QueueState
opening_queue = record { num = 64; ready = false; desc_low = 0; desc_high = 0; driver_low = 0; driver_high = 0; device_low = 0; device_high = 0 }

-- the size and the addresses of a queue that is not ready, after a word was stored
abbrev pub queue_set : QueueState → ℕ → ℕ → QueueState
queue_set q off v =
    if off == 0x38 then (if is_queue_size v then record q { num = v } else q) else  -- QueueNum
    if off == 0x80 then record q { desc_low = v } else  -- QueueDescLow
    if off == 0x84 then record q { desc_high = v } else  -- QueueDescHigh
    if off == 0x90 then record q { driver_low = v } else  -- QueueDriverLow
    if off == 0x94 then record q { driver_high = v } else  -- QueueDriverHigh
    if off == 0xa0 then record q { device_low = v } else  -- QueueDeviceLow
    if off == 0xa4 then record q { device_high = v } else q  -- QueueDeviceHigh

-- a queue after a word was stored at an offset: QueueReady keeps bit 0, and a queue that is ready keeps all else
abbrev pub queue_after : QueueState → ℕ → ℕ → QueueState
queue_after q off v =
    if off == 0x44 then record q { ready = v % 2 == 1 } else  -- QueueReady
    if q.ready then q else queue_set q off v

-- what that did
abbrev pub queue_done : QueueState → ℕ → ℕ → ℕ → RegDone
queue_done q i off v =
    if off == 0x44 then ( -- QueueReady
    if v % 2 == 1 && not q.ready then done.QueueUp i else
    if q.ready && not (v % 2 == 1) then done.QueueDown i else done.Done
    ) else done.Done

abbrev pub set_of : QueueState → QueueSet
set_of q = record {
  size = q.num;
  desc = q.desc_high * 2 ^ 32 + q.desc_low;
  driver = q.driver_high * 2 ^ 32 + q.driver_low;
  device = q.device_high * 2 ^ 32 + q.device_low;
}
