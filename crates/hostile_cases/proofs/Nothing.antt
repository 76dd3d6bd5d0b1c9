-- No devices at all are a stock.
use Rattle.std.proofs.Common.{◌≡◌, List, [], ◌∷◌, All, map, sym, subst, arith}
use Rattle.dev_face.specs.States.{DevState, Blank}
use Rattle.dev_face.specs.declared.kind.Kind.{Kind}
use Rattle.dev_face.specs.declared.kind.Kind.TheVariants as kind
use Rattle.bench_build.specs.Stocks.{IsStock}

none_of : {A : Type 0} (state : A → DevState) (xs : List A) (k : Kind) → xs ≡ [] → All (λ s. s ≡ Blank k) (map state xs)
none_of {A} state xs k none = subst (λ (ys : List A). All (λ s. s ≡ Blank k) (map state ys)) (sym none) (λ i d below. absurd (omega (arith, below)))

pub no_devices : {A : Type 0} (state : A → DevState) (clints uarts blks nets : List A) → clints ≡ [] → uarts ≡ [] → blks ≡ [] → nets ≡ []
    → IsStock state (clints ∷ uarts ∷ blks ∷ nets ∷ [])
no_devices state clints uarts blks nets c u b n kind.Clint = none_of state clints kind.Clint c
no_devices state clints uarts blks nets c u b n kind.Uart = none_of state uarts kind.Uart u
no_devices state clints uarts blks nets c u b n kind.Blk = none_of state blks kind.Blk b
no_devices state clints uarts blks nets c u b n kind.Net = none_of state nets kind.Net n
