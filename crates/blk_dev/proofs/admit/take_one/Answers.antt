use Rattle.std.proofs.Common.{length, sym, subst}
use Rattle.dev_face.specs.BlkStates.{FlightsFit}
use Rattle.blk_dev.proofs.Taking.{flights_push}
use Rattle.blk_dev.proofs.admit.take_one.Goals as goal

pub take_request-requires-clause-request : goal.take_request-requires-clause-request
take_request-requires-clause-request c =
    let long = c.if-is_short.ensures.tells in
    let small = c.is_short.ensures.small (length c.args.ram.now) c.in-Chain.ensures.ranges in
    record { head = c.in-Chain.ensures.ready.inside; header = long.0; status = long.1; readable = small.0; writable = small.1 }

pub returns-in_ok-take_request-in-Chain-clause-ranges : goal.returns-in_ok-take_request-in-Chain-clause-ranges
returns-in_ok-take_request-in-Chain-clause-ranges c =
    subst (FlightsFit (length c.args.ram.now)) (sym c.in_ok-take_request-in-Chain.ensures.flying) (flights_push (length c.args.ram.now) c.args.flying.now.items _ c.requires.ranges c.in-Chain.ensures.ranges)
