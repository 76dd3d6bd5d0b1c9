-- What is in flight lies in RAM in one way at most.
use Rattle.std.specs.Prelude.{ℕ, Option, Some, None, List, [], ◌∷◌}
use Rattle.std.specs.Coded.{Unit-prop}
use Rattle.std.proofs.Props.{props}
use Rattle.split_queue.specs.declared.range.Range.{Range}
use Rattle.split_queue.specs.Queues.{Queue}
use Rattle.split_queue.specs.Streams.{RangesFit}
use Rattle.dev_face.specs.States.{DevState, Blank, ClintAt, UartAt, BlkAt, NetAt, FliesIn}
use Rattle.dev_face.specs.BlkStates.{FlightState, ActiveState, FlightsFit, RingsUsed, BlkFits}

ranges_fit-prop : (n : ℕ) (rs : List Range) → IsProp (RangesFit n rs)
ranges_fit-prop n [] = Unit-prop
ranges_fit-prop n (r ∷ rs) = hlevel (props, ranges_fit-prop n rs)

flights_fit-prop : (n : ℕ) (fs : List FlightState) → IsProp (FlightsFit n fs)
flights_fit-prop n [] = Unit-prop
flights_fit-prop n (f ∷ fs) = hlevel (props, ranges_fit-prop, flights_fit-prop n fs)

rings_used-prop : (n : ℕ) (q : Queue) (fs : List FlightState) → IsProp (RingsUsed n q fs)
rings_used-prop n q [] = Unit-prop
rings_used-prop n q (f ∷ fs) = hlevel props

blk_fits-prop : (n : ℕ) (o : Option ActiveState) → IsProp (BlkFits n o)
blk_fits-prop n None = Unit-prop
blk_fits-prop n (Some a) = hlevel (props, flights_fit-prop, rings_used-prop)

pub flies_in-prop : (n : ℕ) (s : DevState) → IsProp (FliesIn n s)
flies_in-prop n (Blank k) = Unit-prop
flies_in-prop n (ClintAt s) = Unit-prop
flies_in-prop n (UartAt s) = Unit-prop
flies_in-prop n (BlkAt s) = blk_fits-prop n s.active
flies_in-prop n (NetAt s) = Unit-prop
