-- What a contract sees of a disk server.
use Rattle.std.specs.Prelude.{◌≡◌, ℕ, ◌+◌, ◌*◌, ◌/◌, ◌^◌, ◌≤◌, List, min, max}
use Rattle.disk_model.specs.declared.disk_params.DiskParams.{DiskParams}
use Rattle.disk_model.specs.Service.{Position, Request, disk_at, distance}

pub record Server : Type 0 where
  pub costs : DiskParams
  pub position : Position

-- the limits of what a disk may cost
abbrev pub CostsInLimits : DiskParams → Type 0
CostsInLimits p = (1 ≤ p.base) × (p.base ≤ 1000000) × (p.seek_num ≤ 1000000) × (1 ≤ p.seek_den) × (p.seek_den ≤ 1000000) × (p.per_sector ≤ 1000000)

-- the server stands for this list of requests
abbrev pub StandsFor : Server → List Request → Type 0
StandsFor s h = s.position ≡ disk_at s.costs h

-- the server after one more request, from what it holds alone
unfoldable pub admitted : Server → ℕ → ℕ → ℕ → Server
admitted s n sector count =
    let service : ℕ = s.costs.base + distance sector s.position.head * s.costs.seek_num / s.costs.seek_den + s.costs.per_sector * count in
    record { costs = s.costs; position = record { head = sector + count; free = min (max n s.position.free + service) (2 ^ 63) } }
