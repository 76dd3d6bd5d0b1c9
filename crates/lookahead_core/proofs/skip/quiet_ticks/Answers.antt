use Rattle.std.proofs.Common.{◌≤◌, ◌^◌, max, arith}
use Rattle.lookahead_core.proofs.skip.quiet_ticks.Goals as goal

pub returns-clause-quiet : goal.returns-clause-quiet
returns-clause-quiet g c = λ k some le.
    let done = c.args.seat.now.done in
    let idle = c.requires.idle c.if-seat.false in
    let least = c.quiet_to-quiet.ensures.least done idle in
    let most : c.quiet_to-quiet.result ≤ max (2 ^ 40) done = c.quiet_to-quiet.ensures.most done idle in
    record {
      idle = c.if-seat.false;
      clock_is = idle;
      within = omega (arith, some, le, least, c.quiet_to-quiet.ensures.value done idle);
      are_quiet = λ j lt. c.quiet_to-quiet.ensures.quiet done idle j (omega (arith, some, le, least, lt));
      early = omega (arith, some, le, least, most, c.requires.early);
    }
