use Rattle.std.proofs.Common.{◌≡◌, ℕ, ◌≤◌, arith}
use Rattle.machine_cases.proofs.cases.running.watch.Goals as goal

pub skip_to-requires : goal.skip_to-requires
skip_to-requires g c =
    let n = c.in_ok-make_ticks.ensures.idle.0 in
    let idle = c.in_ok-make_ticks.ensures.idle.1 in
    record { idle = (n, idle, c.quiet_to-quiet.ensures.least n idle, eq-le (c.quiet_to-quiet.ensures.value n idle)) }
  where
    eq-le : {a b : ℕ} → a ≡ b → a ≤ b
    eq-le e = omega (arith, e)
