-- A store keeps what is in flight, or forgets it.
use Rattle.std.proofs.Common.{◌≡◌, ℕ, Bool, true, false, cond, Option, Some, None, sym, subst}
use Rattle.tb_base.specs.declared.width.Width.{Width}
use Rattle.virtio_regs.specs.declared.queue_set.QueueSet.{QueueSet}
use Rattle.virtio_regs.specs.declared.reg_done.RegDone.{RegDone}
use Rattle.virtio_regs.specs.declared.reg_done.RegDone.TheVariants as reg
use Rattle.virtio_regs.specs.Registers.{RegsState, queue_of}
use Rattle.virtio_regs.specs.Stores.{reg_store}
use Rattle.dev_face.specs.States.{BlkAt, IsComing}
use Rattle.dev_face.specs.BlkStates.{BlkState, BlkFits}
use Rattle.dev_face.specs.Queues.{is_refused}
use Rattle.dev_face.specs.BlkCalls.{activated, blk_after, blk_store}
use Rattle.blk_dev.specs.declared.disk.Disk.{Disk}
use Rattle.blk_dev.specs.DiskView.{disk_state}
use Rattle.blk_dev.specs.BlkView.{state_of}

fits_activated : (n : ℕ) (o : Option QueueSet) → BlkFits n (activated o)
fits_activated n None = tt
fits_activated n (Some q) = record { ranges = tt; rings = tt }

after_coming : (s : BlkState) (regs : RegsState) (d : RegDone) (tick n : ℕ) → IsComing tick n (BlkAt s) → IsComing tick n (BlkAt (blk_after s regs d))
after_coming s regs reg.Done tick n h = record { set_up = h.set_up; next = h.next; flies = h.flies }
after_coming s regs (reg.Notified i) tick n h = record { set_up = h.set_up; next = h.next; flies = h.flies }
after_coming s regs (reg.QueueUp i) tick n h = record { set_up = h.set_up; next = h.next; flies = fits_activated n (queue_of regs 0) }
after_coming s regs (reg.QueueDown i) tick n h = record { set_up = h.set_up; next = h.next; flies = tt }
after_coming s regs reg.Reset tick n h = record { set_up = h.set_up; next = h.next; flies = tt }
after_coming s regs reg.Fault tick n h = record { set_up = h.set_up; next = h.next; flies = h.flies }

refused_or : (b : Bool) (s t : BlkState) (tick n : ℕ) → IsComing tick n (BlkAt s) → IsComing tick n (BlkAt t) → IsComing tick n (BlkAt (cond b s t))
refused_or true s t tick n h k = h
refused_or false s t tick n h k = k

pub stored_coming : (o : Option Disk) (d : Disk) (s : BlkState) (off : ℕ) (width : Width) (v tick n : ℕ) → o ≡ Some d → s ≡ blk_store (disk_state d) off width v → IsComing tick n (state_of o) → IsComing tick n (BlkAt s)
stored_coming o d s off width v tick n there is h =
    let was : IsComing tick n (BlkAt (disk_state d)) = subst (λ (x : Option Disk). IsComing tick n (state_of x)) there h in
    subst (λ (x : BlkState). IsComing tick n (BlkAt x)) (sym is)
    (refused_or (is_refused off width) (disk_state d) _ tick n was (after_coming (disk_state d) (reg_store d.regs off width v).regs (reg_store d.regs off width v).done tick n was))
