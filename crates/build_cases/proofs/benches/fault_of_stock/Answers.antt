use Rattle.std.proofs.Common.{arith}
use Rattle.dev_face.specs.contracts.boxed.BoxDynDeviceDevice.TheImpl.{state-value}
use Rattle.build_cases.proofs.Boxes.{stock_of}
use Rattle.build_cases.proofs.benches.fault_of_stock.OwnLists.{own-1, lawful-own-1}
use Rattle.build_cases.proofs.benches.fault_of_stock.Goals as goal

pub finished-requires : goal.finished-requires
finished-requires c =
    let stock = stock_of (state-value (own-1, lawful-own-1)).it c.loop.clints c.loop-2.uarts c.loop-3.blks c.loop-4.nets
    c.loop.invariant c.loop-2.invariant c.loop-3.invariant c.loop-4.invariant in
    (omega arith, (c.requires.images, (c.requires.disks, stock)))
