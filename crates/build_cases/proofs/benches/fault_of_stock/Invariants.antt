use Rattle.std.proofs.Common.{◌≡◌, All, map}
use Rattle.dev_face.specs.States.{Blank}
use Rattle.dev_face.specs.declared.kind.Kind.TheVariants as kind
use Rattle.dev_face.specs.contracts.boxed.BoxDynDeviceDevice.TheImpl.{state-value}
use Rattle.build_cases.proofs.benches.fault_of_stock.OwnLists.{own-1, lawful-own-1}
use Rattle.build_cases.proofs.benches.fault_of_stock.Given as goal

abbrev pub invariant-loop : goal.invariant-loop
invariant-loop l = All (λ s. s ≡ Blank kind.Clint) (map (state-value (own-1, lawful-own-1)).it l.clints.items)

abbrev pub invariant-loop-2 : goal.invariant-loop-2
invariant-loop-2 l = All (λ s. s ≡ Blank kind.Uart) (map (state-value (own-1, lawful-own-1)).it l.uarts.items)

abbrev pub invariant-loop-3 : goal.invariant-loop-3
invariant-loop-3 l = All (λ s. s ≡ Blank kind.Blk) (map (state-value (own-1, lawful-own-1)).it l.blks.items)

abbrev pub invariant-loop-4 : goal.invariant-loop-4
invariant-loop-4 l = All (λ s. s ≡ Blank kind.Net) (map (state-value (own-1, lawful-own-1)).it l.nets.items)
