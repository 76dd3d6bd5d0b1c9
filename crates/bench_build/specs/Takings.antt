-- How many devices of each kind are taken of a stock.
use Rattle.std.specs.Prelude.{◌≡◌, ◌==◌, ℕ, zero, suc, ◌+◌, ◌≤◌, List, [], ◌∷◌, ◌++◌, All, length, map, replicate, slice_index_or, if◌then◌else◌}
use Rattle.std.specs.declared.vec.Vec.{Vec}
use Rattle.dev_face.specs.States.{config_kind, IsInLimits}
use Rattle.dev_face.specs.declared.config.DevConfig.{DevConfig}
use Rattle.dev_face.specs.declared.config.DevConfig.TheVariants as config
use Rattle.dev_face.specs.declared.kind.Kind.{Kind}
use Rattle.dev_face.specs.declared.kind.Kind.TheVariants as kind
use Rattle.exp_file.specs.Links.{nics_of}
use Rattle.exp_file.specs.declared.guest_spec.GuestSpec.{GuestSpec}
use Rattle.bench_build.specs.Setups.{nic_configs}
use Rattle.bench_build.specs.Stocks.{rank, items_of}

-- how many of these configurations are for a kind
abbrev pub number_for : Kind → List DevConfig → ℕ
number_for k [] = 0
number_for k (c ∷ cs) = (if rank (config_kind c) == rank k then 1 else 0) + number_for k cs

-- a Clint and a Uart before the others
abbrev pub with_base : List DevConfig → List DevConfig
with_base others = config.Clint ∷ config.Uart ∷ others

-- so many nics of guest g behind its disks
abbrev pub with_nics : ℕ → ℕ → List DevConfig → List DevConfig
with_nics g nics disks = disks ++ nic_configs g (length disks) nics

-- the disks of a guest by its number, of a list for each guest
abbrev pub disks_at : {Z : Type 0} → List (Vec DevConfig Z) → ℕ → List DevConfig
disks_at lists g = slice_index_or (items_of lists) g []

-- the disks and the nics of one of these guests by its number
abbrev pub others_at : {Z : Type 0} → List GuestSpec → List (Vec DevConfig Z) → ℕ → List DevConfig
others_at guests lists g = with_nics g (nics_of guests g) (disks_at lists g)

-- how many devices of a kind the first n guests take, which have these beside a Clint and a Uart
abbrev pub guests_take : Kind → (ℕ → List DevConfig) → ℕ → ℕ
guests_take k others zero = 0
guests_take k others (suc n) = guests_take k others n + number_for k (with_base (others n))

-- disks of a guest, which can be set up and for which a machine has room
pub record AreDisks (disks : List DevConfig) : Type 0 where
  pub few : length disks ≤ 2
  pub kinds : map config_kind disks ≡ replicate (length disks) kind.Blk
  pub limits : All IsInLimits disks

-- a guest for which a machine can be built
pub record MayBuild (g : GuestSpec) : Type 0 where
  pub rate_low : 1 ≤ g.rate
  pub rate_high : g.rate ≤ 100000
  pub nics : g.nics ≤ 4
