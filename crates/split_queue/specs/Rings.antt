-- What the rings and the descriptor table of a split queue hold, as numbers in RAM, low byte first (virtio 1.2, sections 2.7.5 to 2.7.8).
use Rattle.std.specs.Prelude.{ℕ, ◌+◌, ◌*◌, ◌-◌, ◌/◌, ◌%◌, ◌==◌, List, slice_index}
use Rattle.split_queue.specs.declared.descriptor.Descriptor.{Descriptor}

-- the byte at an address
unfoldable pub byte_at : List ℕ → ℕ → ℕ
byte_at ram a = slice_index ram (a - 0x80000000)

unfoldable pub le16 : List ℕ → ℕ → ℕ
le16 ram a = byte_at ram a + 0x100 * byte_at ram (a + 1)

unfoldable pub le32 : List ℕ → ℕ → ℕ
le32 ram a = le16 ram a + 0x10000 * le16 ram (a + 2)

unfoldable pub le64 : List ℕ → ℕ → ℕ
le64 ram a = le32 ram a + 0x100000000 * le32 ram (a + 4)

-- the descriptor at a place of the table
unfoldable pub descriptor_at : List ℕ → ℕ → ℕ → Descriptor
descriptor_at ram table i =
    let at : ℕ = table + 16 * i in
    let flags : ℕ = le16 ram (at + 12) in
    record {
      addr = le64 ram at;
      len = le32 ram (at + 8);
      goes_on = flags % 2 == 1;
      writable = flags / 2 % 2 == 1;
      indirect = flags / 4 % 2 == 1;
      next = le16 ram (at + 14);
    }
