-- What a chain is, in the words of whole paths: a list of places in which each next is the one named, and none stands twice
-- (virtio 1.2, section 2.7.5, "The Virtqueue Descriptor Table").
use Rattle.std.specs.Prelude.{◌≡◌, ◌≢◌, ℕ, ◌+◌, ◌<◌, true, false, Some, None, List, length, slice_index, take, map}
use Rattle.tb_base.specs.declared.why.Why.{Why}
use Rattle.split_queue.specs.declared.descriptor.Descriptor.{Descriptor}
use Rattle.split_queue.specs.Chains.{ChainOf, chain_of}
use Rattle.split_queue.specs.Rings.{descriptor_at}
use Rattle.split_queue.specs.Paths.{Start, nth, has_writable, fault_of, fault_at, readable_of, writable_of}

-- the descriptors at some places
abbrev pub descriptors : Start → List ℕ → List Descriptor
descriptors s ps = map (descriptor_at s.ram s.table) ps

-- the descriptor at a place of the list
abbrev pub at : Start → List ℕ → ℕ → Descriptor
at s ps k = descriptor_at s.ram s.table (slice_index ps k)

pub record IsPath (s : Start) (ps : List ℕ) : Type 0 where
  pub some : 0 < length ps
  pub head : slice_index ps 0 ≡ s.head
  pub goes : (k : ℕ) → k + 1 < length ps → (at s ps k).goes_on ≡ true
  pub named : (k : ℕ) → k + 1 < length ps → slice_index ps (k + 1) ≡ (at s ps k).next
  pub ended : (k : ℕ) → k + 1 ≡ length ps → (at s ps k).goes_on ≡ false
  pub once : (j k : ℕ) → j < k → k < length ps → slice_index ps j ≢ slice_index ps k

-- nothing is wrong with any of its descriptors, after those before it
abbrev pub IsSound : Start → List ℕ → Type 0
IsSound s ps = (k : ℕ) → k < length ps → fault_of s.ram s.size (has_writable (descriptors s (take k ps))) (at s ps k) ≡ None

-- the chain of a whole path
pub record IsChainOf (s : Start) (c : ChainOf) (ps : List ℕ) : Type 0 where
  pub path : IsPath s ps
  pub sound : IsSound s ps
  pub joined : c ≡ chain_of s.head (readable_of (descriptors s ps)) (writable_of (descriptors s ps))

-- the first thing that is wrong on the path stands at descriptor n
pub record BreaksAt (s : Start) (w : Why) (n : ℕ) : Type 0 where
  pub before : (k : ℕ) → k < n → fault_at s k ≡ None
  pub goes : (k : ℕ) → k < n → (nth s k).goes_on ≡ true
  pub wrong : fault_at s n ≡ Some w
