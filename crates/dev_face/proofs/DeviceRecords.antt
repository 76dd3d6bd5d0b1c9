-- What a device records when it begins or ends a tick names that tick.
use Rattle.std.proofs.Common.{ℕ, List}
use Rattle.trace_rec.specs.Ticks.{AreOf}
use Rattle.dev_face.specs.States.{DevState, Blank, ClintAt, UartAt, BlkAt, NetAt}
use Rattle.dev_face.specs.Calls.{dev_begin, dev_end}
use Rattle.dev_face.proofs.BlkRecords.{blk_begin_of, blk_end_of}
use Rattle.dev_face.proofs.NetRecords.{net_begin_of, net_end_of}

pub dev_begin_of : (s : DevState) (now : ℕ) (ram : List ℕ) (frames : List (List ℕ)) → AreOf now (dev_begin s now ram frames).recs
dev_begin_of (Blank k) now ram frames = tt
dev_begin_of (ClintAt s) now ram frames = tt
dev_begin_of (UartAt s) now ram frames = tt
dev_begin_of (BlkAt s) now ram frames = blk_begin_of s now ram
dev_begin_of (NetAt s) now ram frames = net_begin_of s now ram frames

pub dev_end_of : (s : DevState) (now : ℕ) (ram : List ℕ) → AreOf now (dev_end s now ram).recs
dev_end_of (Blank k) now ram = tt
dev_end_of (ClintAt s) now ram = tt
dev_end_of (UartAt s) now ram = tt
dev_end_of (BlkAt s) now ram = blk_end_of s now ram
dev_end_of (NetAt s) now ram = net_end_of s now ram
