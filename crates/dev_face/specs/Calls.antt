-- What each call of a device does, by kind. RAM is a list of bytes, and a frame one too.
use Rattle.std.specs.Prelude.{◌≡◌, ℕ, ◌+◌, ◌≤◌, nat_le, if◌then◌else◌, Bool, true, false, Option, Some, None, IfSome, List, []}
use Rattle.tb_base.specs.declared.width.Width.{Width}
use Rattle.tb_base.specs.declared.width.Width.TheVariants.{Byte, Half, Word}
use Rattle.csr_file.specs.declared.lines.Lines.{Lines}
use Rattle.trace_rec.specs.declared.rec.Rec.{Rec}
use Rattle.dev_face.specs.declared.store_done.StoreDone.{StoreDone}
use Rattle.dev_face.specs.declared.store_done.StoreDone.TheVariants as done
use Rattle.dev_face.specs.States.{DevState, Blank, ClintAt, UartAt, BlkAt, NetAt, IsSetUp, coming_of}
use Rattle.dev_face.specs.ClintCalls.{clint_load, clint_after, clint_lines}
use Rattle.dev_face.specs.UartCalls.{uart_load, uart_store}
use Rattle.dev_face.specs.BlkCalls.{blk_load, blk_store, blk_begin, blk_end, blk_end_idle, blk_next}
use Rattle.dev_face.specs.NetCalls.{net_load, net_store, net_begin, net_end, net_end_idle, net_next}
use Rattle.dev_face.specs.Queues.{virtio_done}
use Rattle.virtio_regs.specs.Registers.{RegsState, line_of}

-- what a load at an offset answers in a tick, where None is an access fault
abbrev pub dev_load : DevState → ℕ → ℕ → Width → Option ℕ
dev_load (Blank k) now off width = None
dev_load (ClintAt s) now off width = clint_load s now off width
dev_load (UartAt s) now off width = Some (uart_load off width)
dev_load (BlkAt s) now off width = blk_load s off width
dev_load (NetAt s) now off width = net_load s off width

-- what a store did, and the device after it
pub record Stored : Type 0 where
  pub done : StoreDone
  pub device : DevState

abbrev pub dev_store : DevState → ℕ → ℕ → Width → ℕ → Stored
dev_store (Blank k) now off width value = record { done = done.Fault; device = Blank k }
dev_store (ClintAt s) now off Byte value = record { done = done.Fault; device = ClintAt s }
dev_store (ClintAt s) now off Half value = record { done = done.Fault; device = ClintAt s }
dev_store (ClintAt s) now off Word value = record { done = done.Done; device = ClintAt (clint_after s off value) }
dev_store (UartAt s) now off width value = record { done = uart_store off width value; device = UartAt s }
dev_store (BlkAt s) now off width value = record { done = virtio_done off width; device = BlkAt (blk_store s off width value) }
dev_store (NetAt s) now off width value = record { done = virtio_done off width; device = NetAt (net_store s off width value) }

-- a store that is a fault leaves things as they were
abbrev pub KeptOnFault : {A : Type 0} → StoreDone → A → A → Type 0
KeptOnFault done.Fault old new = new ≡ old
KeptOnFault done.Done old new = Unit {0}
KeptOnFault (done.Byte b) old new = Unit {0}

abbrev pub no_lines : Lines
no_lines = record { software = false; timer = false; external = false }

-- a virtio device has a line of its own, which is external to the hart
abbrev pub virtio_lines : RegsState → Lines
virtio_lines regs = record { software = false; timer = false; external = line_of regs }

-- the lines that the device has up in a tick
abbrev pub dev_lines : DevState → ℕ → Lines
dev_lines (Blank k) now = no_lines
dev_lines (ClintAt s) now = clint_lines s now
dev_lines (UartAt s) now = no_lines
dev_lines (BlkAt s) now = virtio_lines s.regs
dev_lines (NetAt s) now = virtio_lines s.regs

-- the device and RAM after it began a tick, and what it records
pub record Begun : Type 0 where
  pub device : DevState
  pub ram : List ℕ
  pub recs : List Rec

-- with RAM, and with the frames that arrive
abbrev pub dev_begin : DevState → ℕ → List ℕ → List (List ℕ) → Begun
dev_begin (Blank k) now ram frames = record { device = Blank k; ram = ram; recs = [] }
dev_begin (ClintAt s) now ram frames = record { device = ClintAt (record s { coming = now + 1 }); ram = ram; recs = [] }
dev_begin (UartAt s) now ram frames = record { device = UartAt (record { coming = now + 1 }); ram = ram; recs = [] }
dev_begin (BlkAt s) now ram frames = record { device = BlkAt (blk_begin s now ram).disk; ram = (blk_begin s now ram).ram; recs = (blk_begin s now ram).recs }
dev_begin (NetAt s) now ram frames =
    record { device = NetAt (net_begin s now ram frames).nic; ram = (net_begin s now ram frames).ram; recs = (net_begin s now ram frames).recs }

-- the device and RAM after it ended a tick, the frames that leave it, and what it records
pub record Ended : Type 0 where
  pub device : DevState
  pub ram : List ℕ
  pub frames : List (List ℕ)
  pub recs : List Rec

abbrev pub dev_end : DevState → ℕ → List ℕ → Ended
dev_end (Blank k) now ram = record { device = Blank k; ram = ram; frames = []; recs = [] }
dev_end (ClintAt s) now ram = record { device = ClintAt s; ram = ram; frames = []; recs = [] }
dev_end (UartAt s) now ram = record { device = UartAt s; ram = ram; frames = []; recs = [] }
dev_end (BlkAt s) now ram = record { device = BlkAt (blk_end s now ram).disk; ram = ram; frames = []; recs = (blk_end s now ram).recs }
dev_end (NetAt s) now ram =
    record { device = NetAt (net_end s now ram).nic; ram = (net_end s now ram).ram; frames = (net_end s now ram).frames; recs = (net_end s now ram).recs }

-- the least tick to come in which begin does something without an arriving frame: a Clint's timer goes up in
-- mtimecmp, a disk's request completes, and a nic delivers a frame that waits
abbrev pub dev_next : DevState → Option ℕ
dev_next (Blank k) = None
dev_next (ClintAt s) = if nat_le s.coming s.mtimecmp then Some s.mtimecmp else None
dev_next (UartAt s) = None
dev_next (BlkAt s) = blk_next s.active
dev_next (NetAt s) = net_next s

-- the end of a tick serves nothing, so that it changes nothing: a Clint and a Uart serve nothing then, a disk and a nic
-- only where their queue was notified
abbrev pub dev_end_idle : DevState → Bool
dev_end_idle (Blank k) = true
dev_end_idle (ClintAt s) = true
dev_end_idle (UartAt s) = true
dev_end_idle (BlkAt s) = blk_end_idle s
dev_end_idle (NetAt s) = net_end_idle s

-- the ticks up to this one may be passed in one go: it is the next tick or a later one, and nothing is to be done before it
pub record MaySkip (tick : ℕ) (s : DevState) : Type 0 where
  pub set_up : IsSetUp s
  pub later : coming_of s ≤ tick
  pub idle : dev_end_idle s ≡ true
  pub due : IfSome (dev_next s) (λ due. tick ≤ due)
