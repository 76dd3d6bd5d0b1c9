-- What giving a chain back writes (virtio 1.2, section 2.7.8, "The Virtqueue Used Ring").
use Rattle.std.specs.Prelude.{ℕ, ◌+◌, ◌*◌, ◌/◌, ◌%◌, false, List, [], ◌∷◌, ◌++◌, slice_set}
use Rattle.guest_ram.specs.Bytes.{ram_after}
use Rattle.split_queue.specs.Queues.{Queue, queue_of, index_after}

-- the bytes of a number of two and of one of four bytes, low byte first
abbrev pub le16_bytes : ℕ → List ℕ
le16_bytes v = v % 0x100 ∷ v / 0x100 % 0x100 ∷ []

abbrev pub le32_bytes : ℕ → List ℕ
le32_bytes v = v % 0x100 ∷ v / 0x100 % 0x100 ∷ v / 0x10000 % 0x100 ∷ v / 0x1000000 % 0x100 ∷ []

-- a used element: le32 id, which is the head, and le32 len
abbrev pub element_of : ℕ → ℕ → List ℕ
element_of h l = le32_bytes h ++ le32_bytes l

-- RAM after the element was put at its place of the used ring, and then the index
unfoldable pub ram_put : List ℕ → ℕ → ℕ → ℕ → ℕ → ℕ → List ℕ
ram_put ram size used put h l = ram_after (ram_after ram (used + 4 + 8 * (put % size)) (element_of h l)) (used + 2) (le16_bytes (index_after put))

-- the queue with the chain of this head given back
unfoldable pub returned : Queue → ℕ → Queue
returned q h = queue_of q.size q.desc q.avail q.used q.taken (index_after q.put) (slice_set q.out h false)
