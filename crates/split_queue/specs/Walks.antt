-- Chains that grow by a descriptor.
use Rattle.std.specs.Prelude.{if◌then◌else◌, [], ◌∷◌, ◌++◌}
use Rattle.split_queue.specs.declared.descriptor.Descriptor.{Descriptor}
use Rattle.split_queue.specs.Chains.{ChainOf, chain_of}
use Rattle.split_queue.specs.Paths.{range_of}

-- a chain with one more descriptor
unfoldable pub added : ChainOf → Descriptor → ChainOf
added c d = if d.writable then chain_of c.head c.readable (c.writable ++ range_of d ∷ []) else chain_of c.head (c.readable ++ range_of d ∷ []) c.writable
