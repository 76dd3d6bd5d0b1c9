-- That no frame leaves a pipe holds in one way at most.
use Rattle.std.specs.Prelude.{ℕ, Option, Some, None}
use Rattle.std.specs.Coded.{Unit-prop}
use Rattle.std.proofs.Props.{props}
use Rattle.link_pipe.specs.PipeStates.{PipeState}
use Rattle.dev_list.specs.Sending.{NoneLeaves}

pub none_leaves-prop : (n : ℕ) (o : Option PipeState) → IsProp (NoneLeaves n o)
none_leaves-prop n None = Unit-prop
none_leaves-prop n (Some p) = hlevel props
