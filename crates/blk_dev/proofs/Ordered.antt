-- Finish ticks never fall along the requests in flight.
use Rattle.std.proofs.Common.{◌≡◌, ℕ, zero, suc, ◌/◌, ◌≤◌, ◌^◌, ◌&&◌, Bool, true, false, cond, nat_le, Option, Some, None, List, [], ◌∷◌, ◌++◌, refl, sym, subst, arith}
use Rattle.std.specs.Prelude.{All, AllPairs}
use Rattle.std.proofs.lemmas.List.Elements.{All-nil, All-cons, All-head, All-tail, All-push, All-weaker}
use Rattle.tb_base.specs.declared.width.Width.{Width}
use Rattle.split_queue.specs.Chains.{ChainOf}
use Rattle.split_queue.specs.Taking.{took}
use Rattle.split_queue.specs.declared.took.Took.{Took}
use Rattle.split_queue.specs.declared.took.Took.TheVariants.{Chain, Empty, Broken}
use Rattle.disk_model.specs.declared.disk_params.DiskParams.{DiskParams}
use Rattle.disk_model.specs.Server.{Server, admitted}
use Rattle.virtio_regs.specs.declared.queue_set.QueueSet.{QueueSet}
use Rattle.virtio_regs.specs.declared.reg_done.RegDone.{RegDone}
use Rattle.virtio_regs.specs.declared.reg_done.RegDone.TheVariants as reg
use Rattle.virtio_regs.specs.Registers.{RegsState, is_live, queue_of}
use Rattle.virtio_regs.specs.Stores.{reg_store}
use Rattle.dev_face.specs.Queues.{is_refused}
use Rattle.dev_face.specs.BlkStates.{FlightState, ActiveState, BlkState, opening_disk}
use Rattle.dev_face.specs.BlkRequests.{header, kind_in, sector_in, data_len, is_well_formed, is_short}
use Rattle.dev_face.specs.BlkCalls.{Work, Served, served, completed, done_rec, with_rec, activated, blk_after, blk_store, begin_active, blk_begin, work_of, Intake, TakenOne, Taken, take_one, take_all, on_took, admitted_as, flight_of, BlkEnded, after_taken, end_active, blk_end, intake_of, blk_next, first_finish}
use Rattle.blk_dev.specs.Order.{in_flight, FinishInOrder, IsOrdered, IsLeastFinish}

abbrev pub finish : FlightState → ℕ
finish f = f.finish

abbrev pub NotBefore : FlightState → FlightState → Type 0
NotBefore f g = f.finish ≤ g.finish

-- pairs of a list that grows at its front
pub pairs_cons : (f : FlightState) (fs : List FlightState) → All (NotBefore f) fs → AllPairs NotBefore fs → AllPairs NotBefore (f ∷ fs)
pairs_cons f fs a h zero zero d lt inside = absurd (omega (arith, lt))
pairs_cons f fs a h zero (suc j) d lt inside = a j d (omega (arith, inside))
pairs_cons f fs a h (suc i) zero d lt inside = absurd (omega (arith, lt))
pairs_cons f fs a h (suc i) (suc j) d lt inside = h i j d (omega (arith, lt)) (omega (arith, inside))

pub pairs_head : (f : FlightState) (fs : List FlightState) → AllPairs NotBefore (f ∷ fs) → All (NotBefore f) fs
pairs_head f fs h k d lt = h 0 (suc k) d (omega arith) (omega (arith, lt))

pub pairs_tail : (f : FlightState) (fs : List FlightState) → AllPairs NotBefore (f ∷ fs) → AllPairs NotBefore fs
pairs_tail f fs h i j d lt inside = h (suc i) (suc j) d (omega (arith, lt)) (omega (arith, inside))

pairs_none : AllPairs NotBefore []
pairs_none i j d lt inside = absurd (omega (arith, inside))

-- and at its end
pairs_push : (g : FlightState) (fs : List FlightState) → AllPairs NotBefore fs → All (λ (f : FlightState). f.finish ≤ g.finish) fs → AllPairs NotBefore (fs ++ g ∷ [])
pairs_push g [] h a = pairs_cons g [] (All-nil (NotBefore g)) pairs_none
pairs_push g (f ∷ fs) h a =
    pairs_cons f (fs ++ g ∷ [])
    (All-push (NotBefore f) fs g (pairs_head f fs h) (All-head (λ (x : FlightState). x.finish ≤ g.finish) f fs a))
    (pairs_push g fs (pairs_tail f fs h) (All-tail (λ (x : FlightState). x.finish ≤ g.finish) f fs a))

pub none_flies : (s : Server) → s.position.free ≤ 2 ^ 63 → FinishInOrder s []
none_flies s le = record { order = pairs_none; free = All-nil (λ (f : FlightState). f.finish ≤ s.position.free); range = le }

-- one more request finishes when the server is free after it
one_more : (s t : Server) (fs : List FlightState) (f : FlightState) → FinishInOrder s fs → s.position.free ≤ t.position.free → t.position.free ≤ 2 ^ 63 → f.finish ≡ t.position.free → FinishInOrder t (fs ++ f ∷ [])
one_more s t fs f h le range is =
    let before : All (λ (x : FlightState). x.finish ≤ t.position.free) fs = All-weaker (λ (x : FlightState). x.finish ≤ s.position.free) (λ (x : FlightState). x.finish ≤ t.position.free) (λ x b. omega (arith, b, le)) fs h.free in
    let under : All (λ (x : FlightState). x.finish ≤ f.finish) fs = All-weaker (λ (x : FlightState). x.finish ≤ t.position.free) (λ (x : FlightState). x.finish ≤ f.finish) (λ x b. omega (arith, b, is)) fs before in
    record {
      order = pairs_push f fs h.order under;
      free = All-push (λ (x : FlightState). x.finish ≤ t.position.free) fs f before (omega (arith, is));
      range = range;
    }

pub rest_flies : (s : Server) (f : FlightState) (fs : List FlightState) → FinishInOrder s (f ∷ fs) → FinishInOrder s fs
rest_flies s f fs h = record { order = pairs_tail f fs h.order; free = All-tail (λ (x : FlightState). x.finish ≤ s.position.free) f fs h.free; range = h.range }

pub opening_ordered : (sectors disk slot : ℕ) (p : DiskParams) (bytes : List ℕ) → IsOrdered (opening_disk sectors p bytes disk slot)
opening_ordered sectors disk slot p bytes = none_flies (opening_disk sectors p bytes disk slot).server (omega arith)

-- stores
fresh : (s : Server) (o : Option QueueSet) → s.position.free ≤ 2 ^ 63 → FinishInOrder s (in_flight (activated o))
fresh s None le = none_flies s le
fresh s (Some q) le = none_flies s le

after_ordered : (s : BlkState) (regs : RegsState) (d : RegDone) → IsOrdered s → IsOrdered (blk_after s regs d)
after_ordered s regs reg.Done h = h
after_ordered s regs (reg.Notified i) h = h
after_ordered s regs (reg.QueueUp i) h = fresh s.server (queue_of regs 0) h.range
after_ordered s regs (reg.QueueDown i) h = none_flies s.server h.range
after_ordered s regs reg.Reset h = none_flies s.server h.range
after_ordered s regs reg.Fault h = h

refused_or : (b : Bool) (s t : BlkState) → IsOrdered s → IsOrdered t → IsOrdered (cond b s t)
refused_or true s t h k = h
refused_or false s t h k = k

pub store_ordered : (s : BlkState) (off v : ℕ) (width : Width) → IsOrdered s → IsOrdered (blk_store s off width v)
store_ordered s off v width h =
    refused_or (is_refused off width) s (blk_after s (reg_store s.regs off width v).regs (reg_store s.regs off width v).done) h
    (after_ordered s (reg_store s.regs off width v).regs (reg_store s.regs off width v).done h)

-- ticks begin
left_of : (b : Bool) (x y : Served) (s : Server) → FinishInOrder s x.left → FinishInOrder s y.left → FinishInOrder s (cond b x y).left
left_of true x y s h k = h
left_of false x y s h k = k

left_ordered : (now disk sectors : ℕ) (w : Work) (s : Server) (fs : List FlightState) → FinishInOrder s fs → FinishInOrder s (served now disk sectors w fs).left
unfolding served
left_ordered now disk sectors w s [] h = h
left_ordered now disk sectors w s (f ∷ fs) h =
    left_of (nat_le f.finish now) (with_rec (done_rec now disk sectors f) (served now disk sectors (completed sectors w f) fs)) (record { work = w; left = f ∷ fs; recs = [] }) s
    (left_ordered now disk sectors (completed sectors w f) s fs (rest_flies s f fs h)) h

begun_ordered : (s : BlkState) (now : ℕ) (ram : List ℕ) (o : Option ActiveState) → s.active ≡ o → FinishInOrder s.server (in_flight o) → IsOrdered (begin_active s now ram o).disk
begun_ordered s now ram None e h = subst (λ (o : Option ActiveState). FinishInOrder s.server (in_flight o)) (sym e) h
begun_ordered s now ram (Some a) e h = left_ordered now s.disk s.sectors (work_of s a ram) s.server a.flying h

pub begin_ordered : (s : BlkState) (now : ℕ) (ram : List ℕ) → IsOrdered s → IsOrdered (blk_begin s now ram).disk
begin_ordered s now ram h = begun_ordered s now ram s.active refl h

-- the first request in flight has the least finish tick
least_of : (fs : List FlightState) → AllPairs NotBefore fs → IsLeastFinish (first_finish fs) fs
least_of [] h = refl
least_of (f ∷ fs) h = ((0, omega arith, refl), All-cons (λ (x : FlightState). f.finish ≤ x.finish) f fs (omega arith) (pairs_head f fs h))

least_in : (s : Server) (o : Option ActiveState) → FinishInOrder s (in_flight o) → IsLeastFinish (blk_next o) (in_flight o)
least_in s None h = refl
least_in s (Some a) h = least_of a.flying h.order

pub next_least : (s : BlkState) → IsOrdered s → IsLeastFinish (blk_next s.active) (in_flight s.active)
next_least s h = least_in s.server s.active h

-- what the server says of one more request
abbrev pub Rises : Type 0
Rises = (s : Server) (n a b : ℕ) → s.position.free ≤ 2 ^ 63 → s.position.free ≤ (admitted s n a b).position.free

abbrev pub Bounded : Type 0
Bounded = (s : Server) (n a b : ℕ) → (admitted s n a b).position.free ≤ 2 ^ 63

-- ticks end
abbrev Good : Intake → Type 0
Good x = FinishInOrder x.server x.flying

module _ (rises : Rises) (bounded : Bounded) where
  as_rises : (s : Server) (now sector len : ℕ) (good : Bool) → s.position.free ≤ 2 ^ 63 → s.position.free ≤ (admitted_as s now sector len good).position.free
  as_rises s now sector len true le = rises s now sector (len / 512) le
  as_rises s now sector len false le = rises s now s.position.head 0 le

  as_bounded : (s : Server) (now sector len : ℕ) (good : Bool) → (admitted_as s now sector len good).position.free ≤ 2 ^ 63
  as_bounded s now sector len true = bounded s now sector (len / 512)
  as_bounded s now sector len false = bounded s now s.position.head 0

  takes : (x : Intake) (now sector len : ℕ) (good : Bool) (c : ChainOf) (kind : ℕ) → Good x →
      FinishInOrder (admitted_as x.server now sector len good) (x.flying ++ flight_of c kind sector (admitted_as x.server now sector len good) ∷ [])
  takes x now sector len good c kind h =
      one_more x.server (admitted_as x.server now sector len good) x.flying (flight_of c kind sector (admitted_as x.server now sector len good)) h
      (as_rises x.server now sector len good h.range) (as_bounded x.server now sector len good) refl

  intake_of_either : (b : Bool) (x y : TakenOne) → Good x.intake → Good y.intake → Good (cond b x y).intake
  intake_of_either true x y h k = h
  intake_of_either false x y h k = k

  on_took_good : (now slot sectors : ℕ) (ram : List ℕ) (x : Intake) (t : Took) → Good x → Good (on_took now slot sectors ram x t).intake
  on_took_good now slot sectors ram x Empty h = h
  on_took_good now slot sectors ram x (Broken why) h = none_flies x.server h.range
  on_took_good now slot sectors ram x (Chain c) h =
      intake_of_either (is_short c) _ _ (none_flies x.server h.range)
      (takes x now (sector_in (header ram c)) (data_len (kind_in (header ram c)) c) (is_well_formed sectors (kind_in (header ram c)) (sector_in (header ram c)) (data_len (kind_in (header ram c)) c)) c (kind_in (header ram c)) h)

  take_one_good : (now slot sectors : ℕ) (ram : List ℕ) (x : Intake) → Good x → Good (take_one now slot sectors ram x).intake
  unfolding take_one
  take_one_good now slot sectors ram x h = on_took_good now slot sectors ram x (took ram x.queue) h

  taken_of_either : (b : Bool) (x y : Taken) → Good x.intake → Good y.intake → Good (cond b x y).intake
  taken_of_either true x y h k = h
  taken_of_either false x y h k = k

  take_all_good : (now slot sectors : ℕ) (ram : List ℕ) (k : ℕ) (x : Intake) → Good x → Good (take_all now slot sectors ram k x).intake
  unfolding take_all
  take_all_good now slot sectors ram zero x h = h
  take_all_good now slot sectors ram (suc k) x h =
      let one = take_one_good now slot sectors ram x h in
      taken_of_either (take_one now slot sectors ram x).goes_on _ _ (take_all_good now slot sectors ram k (take_one now slot sectors ram x).intake one) one

  ended_either : (b : Bool) (x y : BlkEnded) → IsOrdered x.disk → IsOrdered y.disk → IsOrdered (cond b x y).disk
  ended_either true x y h k = h
  ended_either false x y h k = k

  ended_ordered : (s : BlkState) (now : ℕ) (ram : List ℕ) (o : Option ActiveState) → IsOrdered s → FinishInOrder s.server (in_flight o) → IsOrdered (end_active s now ram o).disk
  ended_ordered s now ram None h k = h
  ended_ordered s now ram (Some a) h k =
      let t : Taken = take_all now s.slot s.sectors ram 65536 (intake_of s a) in
      ended_either (is_live s.regs && s.notified) (after_taken s t) (record { disk = s; recs = [] }) (take_all_good now s.slot s.sectors ram 65536 (intake_of s a) k) h

  pub end_ordered : (s : BlkState) (now : ℕ) (ram : List ℕ) → IsOrdered s → IsOrdered (blk_end s now ram).disk
  end_ordered s now ram h = ended_ordered s now ram s.active h h
