-- The pipe: the fate of each offer, over the whole list of offers.
use Rattle.std.specs.Prelude.{ℕ, zero, suc, ◌+◌, ◌-◌, ◌*◌, ◌/◌, max, Bool, if◌then◌else◌, nat_le, nat_eq, Option, Some, None, List, [], ◌∷◌, ◌++◌, length, slice_index_or}
use Rattle.std.specs.List.{filter, count_by}
use Rattle.link_pipe.specs.declared.pipe_params.PipeParams.{PipeParams}

-- an offer: its tick, and the bytes of its frame
pub record Offer : Type 0 where
  pub tick : ℕ
  pub frame : List ℕ

abbrev pub offer : ℕ → List ℕ → Offer
offer n f = record { tick = n; frame = f }

-- an accepted frame, with its leave tick
pub record Leaving : Type 0 where
  pub leave : ℕ
  pub frame : List ℕ

abbrev pub leaving : ℕ → List ℕ → Leaving
leaving n f = record { leave = n; frame = f }

-- all frames accepted so far, in order, and the end of the last of them
pub record Past : Type 0 where
  pub last_end : ℕ
  pub accepted : List Leaving

-- the offer at a place of the list
abbrev pub nth : List Offer → ℕ → Offer
nth h i = slice_index_or h i (offer 0 [])

-- when an accepted frame is out of the pipe, in bytes
abbrev pub end_of : PipeParams → Past → Offer → ℕ
end_of p before o = max (o.tick * p.bandwidth) before.last_end + length o.frame

-- the tick in which an accepted frame leaves
abbrev pub leave_of : PipeParams → Past → Offer → ℕ
leave_of p before o = (end_of p before o - 1) / p.bandwidth

-- an offer is dropped exactly when at least `queue` of all frames accepted before leave at its tick or later
abbrev pub is_dropped : PipeParams → Past → Offer → Bool
is_dropped p before o = nat_le p.queue (count_by (λ (a : Leaving). nat_le o.tick a.leave) before.accepted)

-- the past after one more offer
abbrev pub after_offer : PipeParams → Past → Offer → Past
after_offer p before o = if is_dropped p before o then before else record {
  last_end = end_of p before o;
  accepted = before.accepted ++ leaving (leave_of p before o) o.frame ∷ [];
}

-- the past after the first i offers of a list
abbrev pub past : PipeParams → List Offer → ℕ → Past
past p h zero = record { last_end = 0; accepted = [] }
past p h (suc i) = after_offer p (past p h i) (nth h i)

-- the fate of offer i: its leave tick, or dropped
abbrev pub fate : PipeParams → List Offer → ℕ → Option ℕ
fate p h i = if is_dropped p (past p h i) (nth h i) then None else Some (leave_of p (past p h i) (nth h i))

-- every frame accepted of a list of offers
abbrev pub accepted : PipeParams → List Offer → List Leaving
accepted p h = (past p h (length h)).accepted

-- those that leave in tick n
abbrev pub leaving_in : ℕ → List Leaving → List Leaving
leaving_in n fs = filter (λ (a : Leaving). nat_eq a.leave n) fs

-- those that leave in tick n or later
abbrev pub leaving_from : ℕ → List Leaving → List Leaving
leaving_from n fs = filter (λ (a : Leaving). nat_le n a.leave) fs

-- when the first of them leaves
abbrev pub first_leave : List Leaving → Option ℕ
first_leave [] = None
first_leave (f ∷ fs) = Some f.leave

-- what a pipe that was offered the list holds at tick n
pub record PipeAt : Type 0 where
  pub last_end : ℕ
  pub held : List Leaving

abbrev pub pipe_at : PipeParams → List Offer → ℕ → PipeAt
pipe_at p h n = record { last_end = (past p h (length h)).last_end; held = leaving_from n (accepted p h) }
