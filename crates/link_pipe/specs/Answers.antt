-- How an offer is answered.
use Rattle.std.specs.Prelude.{ℕ, List, Option, Some, None}
use Rattle.link_pipe.specs.declared.offered.Offered.{Offered}
use Rattle.link_pipe.specs.declared.offered.Offered.TheVariants.{Taken, Dropped}

-- how an offer with this fate is answered
abbrev pub answer_of : Option ℕ → List ℕ → Offered
answer_of None f = Dropped f
answer_of (Some l) f = Taken
