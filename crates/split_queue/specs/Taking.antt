-- Which chain a split queue gives next (virtio 1.2, section 2.7.6, "The Virtqueue Available Ring").
use Rattle.std.specs.Prelude.{ℕ, ◌+◌, ◌*◌, ◌-◌, ◌%◌, ◌<◌, Bool, false, not, ◌&&◌, ◌==◌, if◌then◌else◌, nat_le, nat_lt, Option, Some, None, Result, Ok, Err, List, length, slice_index_or}
use Rattle.tb_base.specs.declared.why.Why.{Why}
use Rattle.tb_base.specs.declared.why.Why.TheVariants.{RingOutside, IndexAhead, HeadRange, HeadOut}
use Rattle.guest_ram.specs.Bytes.{holds_range}
use Rattle.split_queue.specs.Sizes.{InSize}
use Rattle.split_queue.specs.Chains.{ChainOf}
use Rattle.split_queue.specs.Rings.{le16}
use Rattle.split_queue.specs.Streams.{ChainIn}
use Rattle.split_queue.specs.Paths.{start, walked}
use Rattle.split_queue.specs.Queues.{Queue, marked}
use Rattle.split_queue.specs.declared.took.Took.{Took}
use Rattle.split_queue.specs.declared.took.Took.TheVariants.{Chain, Empty, Broken}

abbrev pub rings_in : List ℕ → ℕ → ℕ → ℕ → ℕ → Bool
rings_in ram size desc avail used = holds_range ram desc (16 * size) && holds_range ram avail (4 + 2 * size) && holds_range ram used (4 + 8 * size)

-- the same as a fact, of a RAM of n bytes
pub record RingsFit (n size desc avail used : ℕ) : Type 0 where
  pub table : InSize n desc (16 * size)
  pub available : InSize n avail (4 + 2 * size)
  pub back : InSize n used (4 + 8 * size)

abbrev pub RingsIn : List ℕ → ℕ → ℕ → ℕ → ℕ → Type 0
RingsIn ram size desc avail used = RingsFit (length ram) size desc avail used

-- by how many one index is ahead of another, modulo 65536
abbrev pub ahead_of : ℕ → ℕ → ℕ
ahead_of index taken = (index + 65536 - taken) % 65536

-- the test of the head that the ring names
abbrev pub tested : ℕ → List Bool → ℕ → Result (Option ℕ) Why
tested size out head = if nat_le size head then Err HeadRange else if slice_index_or out head false then Err HeadOut else Ok (Some head)

-- the next head: none where the ring has no more
unfoldable pub head_from : List ℕ → ℕ → ℕ → ℕ → ℕ → ℕ → List Bool → Result (Option ℕ) Why
head_from ram size desc avail used taken out =
    if not (rings_in ram size desc avail used) then Err RingOutside else
    if ahead_of (le16 ram (avail + 2)) taken == 0 then Ok None else
    if nat_lt size (ahead_of (le16 ram (avail + 2)) taken) then Err IndexAhead else
    tested size out (le16 ram (avail + 4 + 2 * (taken % size)))

abbrev pub next_head : List ℕ → Queue → Result (Option ℕ) Why
next_head ram q = head_from ram q.size q.desc q.avail q.used q.taken q.out

abbrev pub of_walk : Result ChainOf Why → Took
of_walk (Ok c) = Chain c
of_walk (Err w) = Broken w

abbrev pub of_head : Result (Option ℕ) Why → (ℕ → Took) → Took
of_head (Err w) f = Broken w
of_head (Ok None) f = Empty
of_head (Ok (Some h)) f = f h

-- what take_chain answers: the first case that holds
unfoldable pub took : List ℕ → Queue → Took
took ram q = of_head (next_head ram q) (λ h. of_walk (walked (start ram q.desc q.size h)))

-- the queue after it: Empty and Broken change nothing
unfoldable pub after_take : Queue → Took → Queue
after_take q Empty = q
after_take q (Broken w) = q
after_take q (Chain c) = marked q c.head

-- the ranges of a chain that was taken lie in RAM
abbrev pub TookIn : List ℕ → Took → Type 0
TookIn ram Empty = Unit {0}
TookIn ram (Broken w) = Unit {0}
TookIn ram (Chain c) = ChainIn ram c

-- the table and both rings of a queue lie in a RAM of n bytes
abbrev pub QueueFits : ℕ → Queue → Type 0
QueueFits n q = RingsFit n q.size q.desc q.avail q.used

-- what giving a chain back asks for, in a RAM of n bytes
pub record CanPutIn (n : ℕ) (q : Queue) (head : ℕ) : Type 0 where
  pub rings : QueueFits n q
  pub inside : head < 64

abbrev pub CanPut : List ℕ → Queue → ℕ → Type 0
CanPut ram q head = CanPutIn (length ram) q head

-- a chain that was taken can be given back
abbrev pub CanPutTook : List ℕ → Queue → Took → Type 0
CanPutTook ram q Empty = Unit {0}
CanPutTook ram q (Broken w) = Unit {0}
CanPutTook ram q (Chain c) = CanPut ram q c.head
