-- A disk does nothing in a tick in which no request is due, and at the end of one in which its queue is not notified.
use Rattle.std.proofs.Common.{◌≡◌, ℕ, ◌+◌, ◌<◌, true, false, ◌&&◌, Option, Some, None, List, [], ◌∷◌, refl, sym, ◌∙◌, ap, arith}
use Rattle.std.specs.Prelude.{IfSome, nat_le}
use Rattle.std.proofs.lemmas.Bool.{cond-false, not-true}
use Rattle.std.proofs.lemmas.Bool.Decides.{nat_tests}
use Rattle.virtio_regs.specs.Registers.{is_live}
use Rattle.dev_face.specs.BlkStates.{FlightState, ActiveState, BlkState}
use Rattle.dev_face.specs.BlkCalls.{Work, served, work_of, after_served, begin_active, blk_begin, first_finish, blk_next, end_active, blk_end, idle_with, blk_end_idle}

not_yet : (finish now : ℕ) → now < finish → nat_le finish now ≡ false
not_yet finish now h = grind (arith, nat_tests)

-- none is served before the first is due
pub served_none : (now disk sectors : ℕ) (w : Work) (fs : List FlightState) → IfSome (first_finish fs) (λ due. now < due) → served now disk sectors w fs ≡ record { work = w; left = fs; recs = [] }
unfolding served
served_none now disk sectors w [] h = refl
served_none now disk sectors w (f ∷ fs) h = cond-false (nat_le f.finish now) _ _ (not_yet f.finish now h)

begun_with : (s : BlkState) (now : ℕ) (ram : List ℕ) (o : Option ActiveState) → s.active ≡ o → IfSome (blk_next o) (λ due. now < due) →
    begin_active s now ram o ≡ record { disk = record s { coming = now + 1 }; ram = ram; recs = [] }
begun_with s now ram None e h = refl
begun_with s now ram (Some a) e h =
    ap (after_served s now) (served_none now s.disk s.sectors (work_of s a ram) a.flying h)
    ∙ ap (λ (o : Option ActiveState). record { disk = record s { coming = now + 1; active = o }; ram = ram; recs = [] }) (sym e)

pub blk_begun : (s : BlkState) (now : ℕ) (ram : List ℕ) → IfSome (blk_next s.active) (λ due. now < due) →
    blk_begin s now ram ≡ record { disk = record s { coming = now + 1 }; ram = ram; recs = [] }
blk_begun s now ram h = begun_with s now ram s.active refl h

ended_with : (s : BlkState) (now : ℕ) (ram : List ℕ) (o : Option ActiveState) → idle_with s o ≡ true → end_active s now ram o ≡ record { disk = s; recs = [] }
ended_with s now ram None e = refl
ended_with s now ram (Some a) e = cond-false (is_live s.regs && s.notified) _ _ (not-true (is_live s.regs && s.notified) e)

pub blk_ended : (s : BlkState) (now : ℕ) (ram : List ℕ) → blk_end_idle s ≡ true → blk_end s now ram ≡ record { disk = s; recs = [] }
blk_ended s now ram e = ended_with s now ram s.active e
