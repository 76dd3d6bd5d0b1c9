-- The disk service: finish ticks over the whole list of admitted requests.
use Rattle.std.specs.Prelude.{ℕ, zero, suc, ◌+◌, ◌-◌, ◌*◌, ◌/◌, ◌^◌, min, max, List, length, slice_index_or}
use Rattle.disk_model.specs.declared.disk_params.DiskParams.{DiskParams}

-- an admitted request: the tick, the first sector, and how many sectors
pub record Request : Type 0 where
  pub tick : ℕ
  pub sector : ℕ
  pub count : ℕ

abbrev pub request : ℕ → ℕ → ℕ → Request
request n s c = record { tick = n; sector = s; count = c }

-- the request at a place of the list
abbrev pub nth : List Request → ℕ → Request
nth h i = slice_index_or h i (request 0 0 0)

-- how far it is from one sector to another
abbrev pub distance : ℕ → ℕ → ℕ
distance a b = (a - b) + (b - a)

-- where the head is before request i of the list: behind the request before it, and at sector 0 before the first
abbrev pub head_before : List Request → ℕ → ℕ
head_before h zero = 0
head_before h (suc i) = (nth h i).sector + (nth h i).count

-- the ticks that request i takes
abbrev pub service : DiskParams → List Request → ℕ → ℕ
service p h i = p.base + distance (nth h i).sector (head_before h i) * p.seek_num / p.seek_den + p.per_sector * (nth h i).count

-- the tick when the first i requests of the list are finished: 0 for none, and never past 2^63
abbrev pub free_before : DiskParams → List Request → ℕ → ℕ
free_before p h zero = 0
free_before p h (suc i) = min (max (nth h i).tick (free_before p h i) + service p h i) (2 ^ 63)

-- the finish tick of request i
abbrev pub finish : DiskParams → List Request → ℕ → ℕ
finish p h i = free_before p h (suc i)

-- where the head of a disk is, and when the disk is free
pub record Position : Type 0 where
  pub head : ℕ
  pub free : ℕ

-- head and free time after the whole list
abbrev pub disk_at : DiskParams → List Request → Position
disk_at p h = record { head = head_before h (length h); free = free_before p h (length h) }
