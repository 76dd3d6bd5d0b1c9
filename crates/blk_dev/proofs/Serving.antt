-- Requests complete one by one: what is left of serving them all is serving the others.
use Rattle.std.proofs.Common.{◌≡◌, ℕ, ◌*◌, ◌++◌, ◌∷◌, [], List, true, nat_le, length, refl, sym, ◌∙◌, ap, subst, arith, append_assoc, ◌≤◌, ◌<◌}
use Rattle.std.specs.Prelude.{IfSome}
use Rattle.std.proofs.lemmas.List.{append-nil}
use Rattle.std.proofs.lemmas.Bool.{cond-true}
use Rattle.std.proofs.lemmas.Bool.Decides.{nat_tests}
use Rattle.trace_rec.specs.declared.rec.Rec.{Rec}
use Rattle.split_queue.specs.Queues.{Queue}
use Rattle.split_queue.specs.Taking.{QueueFits}
use Rattle.dev_face.specs.States.{StaysInFront}
use Rattle.dev_face.specs.BlkStates.{FlightState, FlightsFit, RingsUsed}
use Rattle.dev_face.specs.BlkCalls.{Work, Served, served, completed, done_rec, first_finish, with_rec}
use Rattle.dev_face.proofs.BlkQuiet.{served_none}
use Rattle.dev_face.proofs.Fronts.{front_same, front_more}

pub record Along (now disk sectors n : ℕ) (w0 w : Work) (fs0 fs : List FlightState) (log0 log : List Rec) : Type 0 where
  pub work : (served now disk sectors w0 fs0).work ≡ (served now disk sectors w fs).work
  pub left : (served now disk sectors w0 fs0).left ≡ (served now disk sectors w fs).left
  pub recs : log0 ++ (served now disk sectors w0 fs0).recs ≡ log ++ (served now disk sectors w fs).recs
  pub ranges : FlightsFit n fs
  pub rings : RingsUsed n w.queue fs
  pub size : length w.ram ≡ n
  pub disk_size : length w.content ≡ 512 * sectors
  pub front : StaysInFront log0 log

pub along_start : (now disk sectors n : ℕ) (w : Work) (fs : List FlightState) (log : List Rec) → FlightsFit n fs → RingsUsed n w.queue fs → length w.ram ≡ n → length w.content ≡ 512 * sectors → Along now disk sectors n w w fs fs log log
along_start now disk sectors n w fs log r q s d = record { work = refl; left = refl; recs = refl; ranges = r; rings = q; size = s; disk_size = d; front = front_same log }

is_due : (finish now : ℕ) → finish ≤ now → nat_le finish now ≡ true
is_due finish now h = grind (arith, nat_tests)

-- the first request is due
served_due : (now disk sectors : ℕ) (w : Work) (f : FlightState) (fs : List FlightState) → f.finish ≤ now → served now disk sectors w (f ∷ fs) ≡ with_rec (done_rec now disk sectors f) (served now disk sectors (completed sectors w f) fs)
unfolding served
served_due now disk sectors w f fs h = cond-true (nat_le f.finish now) _ _ (is_due f.finish now h)

-- the rings of a queue are asked for where there is a request
rings_used : (n : ℕ) (q : Queue) (fs : List FlightState) → QueueFits n q → RingsUsed n q fs
rings_used n q [] h = tt
rings_used n q (f ∷ fs) h = h

pub along_more : (now disk sectors n : ℕ) (w0 w w' : Work) (fs0 fs fs' : List FlightState) (f : FlightState) (log0 log log' : List Rec) (r : Rec) → Along now disk sectors n w0 w fs0 fs log0 log → fs ≡ f ∷ fs' → f.finish ≤ now →
    w' ≡ completed sectors w f → length w'.ram ≡ length w.ram → length w'.content ≡ length w.content → ((m : ℕ) → QueueFits m w.queue → QueueFits m w'.queue) → r ≡ done_rec now disk sectors f → log' ≡ log ++ r ∷ [] →
    Along now disk sectors n w0 w' fs0 fs' log0 log'
along_more now disk sectors n w0 w w' fs0 fs fs' f log0 log log' r a e due done size content rings is more =
    let here : served now disk sectors w fs ≡ with_rec r (served now disk sectors w' fs') =
    ap (served now disk sectors w) e ∙ served_due now disk sectors w f fs' due ∙ ap (λ (x : Work). with_rec (done_rec now disk sectors f) (served now disk sectors x fs')) (sym done)
    ∙ ap (λ (x : Rec). with_rec x (served now disk sectors w' fs')) (sym is) in
    record {
      work = a.work ∙ ap (λ (x : Served). x.work) here;
      left = a.left ∙ ap (λ (x : Served). x.left) here;
      recs = a.recs ∙ ap (λ (x : Served). log ++ x.recs) here ∙ sym (append_assoc log (r ∷ []) (served now disk sectors w' fs').recs) ∙ ap (λ (xs : List Rec). xs ++ (served now disk sectors w' fs').recs) (sym more);
      ranges = (subst (FlightsFit n) e a.ranges).1;
      rings = rings_used n w'.queue fs' (rings n (subst (RingsUsed n w.queue) e a.rings));
      size = size ∙ a.size;
      disk_size = content ∙ a.disk_size;
      front = subst (StaysInFront log0) (sym more) (front_more log0 log r a.front);
    }

-- no request that is left is due
pub record Over (now disk sectors : ℕ) (w0 w : Work) (fs0 fs : List FlightState) (log0 log : List Rec) : Type 0 where
  pub work : w ≡ (served now disk sectors w0 fs0).work
  pub left : fs ≡ (served now disk sectors w0 fs0).left
  pub recs : log ≡ log0 ++ (served now disk sectors w0 fs0).recs

pub along_end : (now disk sectors n : ℕ) (w0 w : Work) (fs0 fs : List FlightState) (log0 log : List Rec) → Along now disk sectors n w0 w fs0 fs log0 log → IfSome (first_finish fs) (λ due. now < due) → Over now disk sectors w0 w fs0 fs log0 log
along_end now disk sectors n w0 w fs0 fs log0 log a h =
    let none = served_none now disk sectors w fs h in
    record {
      work = sym (a.work ∙ ap (λ (x : Served). x.work) none);
      left = sym (a.left ∙ ap (λ (x : Served). x.left) none);
      recs = sym (a.recs ∙ ap (λ (x : Served). log ++ x.recs) none ∙ append-nil log);
    }
