-- What a contract sees of a chain (virtio 1.2, section 2.7.5, "The Virtqueue Descriptor Table").
use Rattle.std.specs.Prelude.{ℕ, List}
use Rattle.split_queue.specs.declared.range.Range.{Range}

pub record ChainOf : Type 0 where
  pub head : ℕ
  pub readable : List Range
  pub writable : List Range

abbrev pub chain_of : ℕ → List Range → List Range → ChainOf
chain_of h r w = record { head = h; readable = r; writable = w }
