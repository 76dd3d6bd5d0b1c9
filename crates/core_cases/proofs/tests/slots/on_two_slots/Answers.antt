use Rattle.std.proofs.Common.{◌<◌, ◌≤◌, ◌+◌, ◌*◌, arith}
use Rattle.std.specs.Prelude.{slice_index}
use Rattle.lookahead_core.specs.CoreWords.{node_count, node_rate}
use Rattle.core_cases.proofs.Shares.{three_at, below_two, below_three, small_two}
use Rattle.core_cases.proofs.tests.slots.on_two_slots.Goals as goal

pub new-requires-clause-homed : goal.new-requires-clause-homed
new-requires-clause-homed c = λ i lt.
    let r = c.requires in
    let home = below_three (λ g. slice_index c.args.homes.now g < 2) r.homes.0 r.homes.1 r.homes.2 i (omega (arith, lt, r.lengths.0)) in
    omega (arith, home, r.lengths.1)

pub new-requires-clause-small : goal.new-requires-clause-small
new-requires-clause-small c = small_two c.args.capacities.now 1000000 c.requires.lengths.1 c.requires.small.0 c.requires.small.1

pub new-requires-clause-fit : goal.new-requires-clause-fit
new-requires-clause-fit c = λ s lt.
    let r = c.requires in
    let rate = node_rate c.args.core in
    let room = below_two (λ t. rate 0 + rate 1 + rate 2 ≤ slice_index c.args.capacities.now t * c.args.factor) r.room_0 r.room_1 s (omega (arith, lt, r.lengths.1)) in
    omega (arith, room, three_at (slice_index c.args.homes.now) rate s (node_count c.args.core) r.count)
