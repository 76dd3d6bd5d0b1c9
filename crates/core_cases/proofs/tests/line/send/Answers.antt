use Rattle.std.proofs.Common.{◌≡◌, ◌∙◌, ℕ, List, [], ◌∷◌, ◌++◌, refl, ap}
use Rattle.flight_line.specs.InFlight.{Bytes, last_leave}
use Rattle.core_cases.proofs.tests.line.send.Goals as goal

last_sent : (fs : List (ℕ × Bytes)) (leave : ℕ) (f : Bytes) → last_leave (fs ++ (leave, f) ∷ []) ≡ leave
last_sent [] leave f = refl
last_sent (g ∷ []) leave f = refl
last_sent (g ∷ h ∷ fs) leave f = last_sent (h ∷ fs) leave f

pub returns : goal.returns
returns c = ap last_leave c.in_ok-send.ensures.sent ∙ last_sent c.args.line.now.frames c.args.leave c.in_ok-frame.frame
