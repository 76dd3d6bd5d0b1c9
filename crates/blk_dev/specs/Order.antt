-- Requests in flight finish in the order of their admission.
use Rattle.std.specs.Prelude.{◌≡◌, ℕ, ◌≤◌, ◌^◌, nat_le, nat_lt, Bool, Option, Some, None, List, [], map, All, AllPairs, Contains}
use Rattle.disk_model.specs.Server.{Server}
use Rattle.dev_face.specs.BlkStates.{FlightState, ActiveState, BlkState}

abbrev pub in_flight : Option ActiveState → List FlightState
in_flight None = []
in_flight (Some a) = a.flying

-- finish ticks never fall along the requests, and none is later than the tick in which the server is free
pub record FinishInOrder (server : Server) (fs : List FlightState) : Type 0 where
  pub order : AllPairs (λ (f g : FlightState). f.finish ≤ g.finish) fs
  pub free : All (λ (f : FlightState). f.finish ≤ server.position.free) fs
  pub range : server.position.free ≤ 2 ^ 63

abbrev pub IsOrdered : BlkState → Type 0
IsOrdered s = FinishInOrder s.server (in_flight s.active)

-- the least finish tick of some requests, where there are any
abbrev pub IsLeastFinish : Option ℕ → List FlightState → Type 0
IsLeastFinish None fs = fs ≡ []
IsLeastFinish (Some t) fs = Contains (map (λ (f : FlightState). f.finish) fs) t × All (λ (f : FlightState). t ≤ f.finish) fs

-- the finish tick of a request is reached, or is to come
abbrev pub is_due : ℕ → FlightState → Bool
is_due now f = nat_le f.finish now

abbrev pub is_later : ℕ → FlightState → Bool
is_later now f = nat_lt now f.finish
