-- What a disk records in a tick names it.
use Rattle.std.proofs.Common.{ℕ, zero, suc, ◌&&◌, true, Option, Some, None, List, [], ◌∷◌, refl}
use Rattle.std.specs.Prelude.{nat_le}
use Rattle.trace_rec.specs.Ticks.{AreOf}
use Rattle.tb_base.specs.declared.why.Why.TheVariants.{ShortRequest}
use Rattle.split_queue.specs.Taking.{took}
use Rattle.split_queue.specs.declared.took.Took.{Took}
use Rattle.split_queue.specs.declared.took.Took.TheVariants.{Chain, Empty, Broken}
use Rattle.virtio_regs.specs.Registers.{is_live}
use Rattle.dev_face.specs.BlkStates.{FlightState, ActiveState, BlkState}
use Rattle.dev_face.specs.BlkRequests.{is_short, header, kind_in, sector_in}
use Rattle.dev_face.specs.BlkCalls.{Work, Served, completed, done_rec, with_rec, served, work_of, begin_active, blk_begin, Intake, TakenOne, Taken, BlkEnded, breaks, with_mark, admit_request, on_took, take_one, goes_on_with, take_all, after_taken, intake_of, end_active, blk_end}
use Rattle.dev_face.proofs.Recorded.{are_of_either}

served_of : (now disk sectors : ℕ) (w : Work) (fs : List FlightState) → AreOf now (served now disk sectors w fs).recs
unfolding served
served_of now disk sectors w [] = tt
served_of now disk sectors w (f ∷ fs) =
    are_of_either now (λ (x : Served). x.recs) (nat_le f.finish now)
    (with_rec (done_rec now disk sectors f) (served now disk sectors (completed sectors w f) fs)) (record { work = w; left = f ∷ fs; recs = [] })
    (refl, served_of now disk sectors (completed sectors w f) fs) tt

begun_of : (s : BlkState) (now : ℕ) (ram : List ℕ) (o : Option ActiveState) → AreOf now (begin_active s now ram o).recs
begun_of s now ram None = tt
begun_of s now ram (Some a) = served_of now s.disk s.sectors (work_of s a ram) a.flying

pub blk_begin_of : (s : BlkState) (now : ℕ) (ram : List ℕ) → AreOf now (blk_begin s now ram).recs
blk_begin_of s now ram = begun_of s now ram s.active

took_of : (now slot sectors : ℕ) (ram : List ℕ) (x : Intake) (t : Took) → AreOf now (on_took now slot sectors ram x t).recs
took_of now slot sectors ram x Empty = tt
took_of now slot sectors ram x (Broken why) = (refl, tt)
took_of now slot sectors ram x (Chain c) =
    are_of_either now (λ (t : TakenOne). t.recs) (is_short c) (breaks now slot (with_mark x c) ShortRequest)
    (record { intake = admit_request now sectors (with_mark x c) c (kind_in (header ram c)) (sector_in (header ram c)); goes_on = true; recs = [] }) (refl, tt) tt

goes_on_of : (now : ℕ) (t : TakenOne) (rest : Intake → Taken) → AreOf now t.recs → ((x : Intake) → AreOf now (rest x).recs) → AreOf now (goes_on_with t rest).recs
goes_on_of now t rest p q =
    are_of_either now (λ (x : Taken). x.recs) t.goes_on (rest t.intake) (record { intake = t.intake; recs = t.recs }) (q t.intake) p

take_one_of : (now slot sectors : ℕ) (ram : List ℕ) (x : Intake) → AreOf now (take_one now slot sectors ram x).recs
unfolding take_one
take_one_of now slot sectors ram x = took_of now slot sectors ram x (took ram x.queue)

take_all_of : (now slot sectors : ℕ) (ram : List ℕ) (k : ℕ) (x : Intake) → AreOf now (take_all now slot sectors ram k x).recs
unfolding take_all
take_all_of now slot sectors ram zero x = tt
take_all_of now slot sectors ram (suc k) x =
    goes_on_of now (take_one now slot sectors ram x) (take_all now slot sectors ram k) (take_one_of now slot sectors ram x) (take_all_of now slot sectors ram k)

ended_of : (s : BlkState) (now : ℕ) (ram : List ℕ) (o : Option ActiveState) → AreOf now (end_active s now ram o).recs
ended_of s now ram None = tt
ended_of s now ram (Some a) =
    are_of_either now (λ (x : BlkEnded). x.recs) (is_live s.regs && s.notified)
    (after_taken s (take_all now s.slot s.sectors ram 65536 (intake_of s a))) (record { disk = s; recs = [] })
    (take_all_of now s.slot s.sectors ram 65536 (intake_of s a)) tt

pub blk_end_of : (s : BlkState) (now : ℕ) (ram : List ℕ) → AreOf now (blk_end s now ram).recs
blk_end_of s now ram = ended_of s now ram s.active
