-- What contracts see of a disk that is set up.
use Rattle.std.specs.Prelude.{Option, Some, None}
use Rattle.dev_face.specs.BlkStates.{ActiveState, BlkState}
use Rattle.blk_dev.specs.declared.active.Active.{Active}
use Rattle.blk_dev.specs.declared.disk.Disk.{Disk}

abbrev pub active_state : Option Active → Option ActiveState
active_state None = None
active_state (Some a) = Some (record { queue = a.queue; flying = a.flying.items })

abbrev pub disk_state : Disk → BlkState
disk_state d = record {
  coming = d.coming;
  disk = d.disk;
  slot = d.slot;
  sectors = d.sectors;
  regs = d.regs;
  notified = d.notified;
  active = active_state d.active;
  server = d.server;
  content = d.content.bytes;
}
