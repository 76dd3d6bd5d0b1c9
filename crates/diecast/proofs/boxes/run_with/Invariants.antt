use Rattle.std.proofs.Common.{◌≡◌, All, map, length}
use Rattle.dev_face.specs.States.{Blank}
use Rattle.dev_face.specs.declared.kind.Kind.TheVariants as kind
use Rattle.dev_face.specs.contracts.boxed.BoxDynDeviceDevice.TheImpl.{state-value}
use Rattle.diecast.proofs.boxes.run_with.OwnLists.{own-1, lawful-own-1}
use Rattle.diecast.proofs.boxes.run_with.Given as goal

abbrev pub invariant-loop : goal.invariant-loop
invariant-loop g l = record {
  clints : All (λ s. s ≡ Blank kind.Clint) (map (state-value (own-1, lawful-own-1)).it l.clints.items);
  uarts : All (λ s. s ≡ Blank kind.Uart) (map (state-value (own-1, lawful-own-1)).it l.uarts.items);
  clints_are : length l.clints.items ≡ l.counter;
  uarts_are : length l.uarts.items ≡ l.counter;
}

abbrev pub invariant-loop-2 : goal.invariant-loop-2
invariant-loop-2 g l = record {
  blks : All (λ s. s ≡ Blank kind.Blk) (map (state-value (own-1, lawful-own-1)).it l.blks.items);
  blks_are : length l.blks.items ≡ l.counter;
}

abbrev pub invariant-loop-3 : goal.invariant-loop-3
invariant-loop-3 g l = record {
  nets : All (λ s. s ≡ Blank kind.Net) (map (state-value (own-1, lawful-own-1)).it l.nets.items);
  nets_are : length l.nets.items ≡ l.counter;
}
