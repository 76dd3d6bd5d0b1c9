-- Nics that begin a tick.
use Rattle.std.specs.Prelude.{◌≡◌, ℕ}
use Rattle.dev_face.specs.States.{kind_of, IsComing}
use Rattle.dev_face.specs.declared.kind.Kind.TheVariants as kind
use Rattle.net_dev.specs.NicView.{nic_state}
use Rattle.net_dev.specs.declared.nic.Nic.{Nic}

-- the device is a nic, and this tick is the next that it begins; it has nothing in flight, whatever the size of RAM
pub record BeginsNext (now : ℕ) (nic : Nic) : Type 0 where
  pub is_nic : kind_of (nic_state nic) ≡ kind.Net
  pub coming : (n : ℕ) → IsComing now n (nic_state nic)
