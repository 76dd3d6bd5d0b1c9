-- Boxes of each kind are a stock.
use Rattle.std.proofs.Common.{◌≡◌, [], ◌∷◌, All, map}
use Rattle.std.specs.declared.vec.Vec.{Vec}
use Rattle.dev_face.specs.States.{DevState, Blank}
use Rattle.dev_face.specs.declared.kind.Kind.TheVariants as kind
use Rattle.bench_build.specs.Stocks.{IsStock, items_of}

pub stock_of : {A Z : Type 0} (state : A → DevState) (clints uarts blks nets : Vec A Z) → All (λ s. s ≡ Blank kind.Clint) (map state clints.items)
    → All (λ s. s ≡ Blank kind.Uart) (map state uarts.items) → All (λ s. s ≡ Blank kind.Blk) (map state blks.items) → All (λ s. s ≡ Blank kind.Net) (map state nets.items)
    → IsStock state (items_of (clints ∷ uarts ∷ blks ∷ nets ∷ []))
stock_of state clints uarts blks nets c u b n = elim [
  | kind.Clint ↦ c
  | kind.Uart ↦ u
  | kind.Blk ↦ b
  | kind.Net ↦ n
]
