use Rattle.std.proofs.Common.{refl}
use Rattle.gen_load.proofs.Rows.{four_on}
use Rattle.gen_load.proofs.queue.put_descriptor.Goals as goal

pub returns : goal.returns
returns c =
    four_on _ _ _ _ _ _ _ _ _ _ _ _ _ c.in_ok-push_slice.ensures.ok c.in_ok-push_slice-2.ensures.ok c.in_ok-push_slice-3.ensures.ok c.in_ok-push_slice-4.ensures.ok
    c.to_le_bytes.ensures c.to_le_bytes-2.ensures c.to_le_bytes-3.ensures refl
