-- What virtio devices do to their registers and queues (virtio 1.2, sections 2.7 and 4.2.2).
use Rattle.std.specs.Prelude.{ℕ, ◌%◌, ◌==◌, nat_lt, if◌then◌else◌, Bool, false, List, replicate}
use Rattle.tb_base.specs.declared.width.Width.{Width}
use Rattle.tb_base.specs.declared.width.Width.TheVariants.{Byte, Half, Word}
use Rattle.tb_base.specs.declared.why.Why.{Why}
use Rattle.trace_rec.specs.declared.rec.Rec.{Rec}
use Rattle.trace_rec.specs.declared.what.What.TheVariants as what
use Rattle.virtio_regs.specs.declared.queue_set.QueueSet.{QueueSet}
use Rattle.virtio_regs.specs.Registers.{RegsState, raised}
use Rattle.split_queue.specs.Queues.{Queue, queue_of}
use Rattle.split_queue.specs.Putting.{ram_put, returned}
use Rattle.split_queue.specs.Rings.{le16}
use Rattle.dev_face.specs.declared.store_done.StoreDone.{StoreDone}
use Rattle.dev_face.specs.declared.store_done.StoreDone.TheVariants as done

-- an access that is refused: it is below the configuration, and no word
abbrev pub is_refused : ℕ → Width → Bool
is_refused off Word = false
is_refused off Byte = nat_lt off 0x100
is_refused off Half = nat_lt off 0x100

-- what a store did
abbrev pub virtio_done : ℕ → Width → StoreDone
virtio_done off width = if is_refused off width then done.Fault else done.Done

-- a queue that became ready: no chain was taken
abbrev pub opened : QueueSet → Queue
opened q = queue_of q.size q.desc q.driver q.device 0 0 (replicate 64 false)

-- the registers, a queue and RAM
pub record Put : Type 0 where
  pub regs : RegsState
  pub queue : Queue
  pub ram : List ℕ

abbrev pub put_with : RegsState → Queue → List ℕ → Put
put_with regs queue ram = record { regs = regs; queue = queue; ram = ram }

-- the chain of a head is given back with the number of bytes written, and the interrupt is raised where the driver wants it
unfoldable pub put_back : Put → ℕ → ℕ → Put
put_back w head len =
    let ram : List ℕ = ram_put w.ram w.queue.size w.queue.used w.queue.put head len in
    record { regs = if le16 ram w.queue.avail % 2 == 0 then raised w.regs 1 else w.regs; queue = returned w.queue head; ram = ram }

-- the record of a device that breaks
abbrev pub broken_rec : ℕ → ℕ → Why → Rec
broken_rec now slot why = record { tick = now; what = what.Broken slot why }
