-- What contracts see of a block device.
use Rattle.std.specs.Prelude.{Option, Some, None, []}
use Rattle.byte_pages.specs.Pages.{PageState}
use Rattle.dev_face.specs.States.{DevState, Blank, BlkAt}
use Rattle.dev_face.specs.declared.kind.Kind.TheVariants as kind
use Rattle.blk_dev.specs.declared.blk.Blk.{Blk}
use Rattle.blk_dev.specs.declared.disk.Disk.{Disk}
use Rattle.blk_dev.specs.DiskView.{disk_state}

abbrev pub state_of : Option Disk → DevState
state_of None = Blank kind.Blk
state_of (Some d) = BlkAt (disk_state d)

abbrev pub blk_state : Blk → DevState
blk_state b = state_of b.disk

-- the pages of its content: which are there its plain state does not tell
abbrev pub pages_of : Option Disk → PageState
pages_of None = record { bytes = []; there = [] }
pages_of (Some d) = d.content

abbrev pub blk_pages : Blk → PageState
blk_pages b = pages_of b.disk
