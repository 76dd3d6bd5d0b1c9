use Rattle.std.proofs.Common.{◌≡◌, ℕ}
use Rattle.dev_face.specs.States.{IsSetUp, IsComing, kind_of}
use Rattle.net_dev.specs.NicView.{nic_state}
use Rattle.net_cases.proofs.nic.bring_up.Given as goal

abbrev pub invariant-loop-off : goal.invariant-loop-off
invariant-loop-off l = record {
  set_up : IsSetUp (nic_state l.nic);
  kind : kind_of (nic_state l.nic) ≡ kind_of (nic_state l.fn.nic);
  coming : (tick n : ℕ) → IsComing tick n (nic_state l.fn.nic) → IsComing tick n (nic_state l.nic);
}
