-- What a contract sees of a split queue (virtio 1.2, section 2.7, "Split Virtqueues").
use Rattle.std.specs.Prelude.{◌≡◌, ℕ, ◌+◌, ◌%◌, ◌≤◌, Bool, true, List, slice_set}

-- its size and addresses, the counts of chains taken and put modulo 65536, and which heads are out
pub record Queue : Type 0 where
  pub size : ℕ
  pub desc : ℕ
  pub avail : ℕ
  pub used : ℕ
  pub taken : ℕ
  pub put : ℕ
  pub out : List Bool

abbrev pub queue_of : ℕ → ℕ → ℕ → ℕ → ℕ → ℕ → List Bool → Queue
queue_of s d a u t p o = record { size = s; desc = d; avail = a; used = u; taken = t; put = p; out = o }

-- a power of two up to 64: those are the sizes up to 64 that divide 65536
abbrev pub IsSize : ℕ → Type 0
IsSize n = (1 ≤ n) × (n ≤ 64) × (65536 % n ≡ 0)

-- the index after this one, modulo 65536
abbrev pub index_after : ℕ → ℕ
index_after n = (n + 1) % 65536

-- the queue with one more chain taken, at this head
unfoldable pub marked : Queue → ℕ → Queue
marked q h = queue_of q.size q.desc q.avail q.used (index_after q.taken) q.put (slice_set q.out h true)
