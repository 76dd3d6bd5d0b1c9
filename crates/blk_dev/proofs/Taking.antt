-- Chains are taken one by one: what is left of taking them all is taking the others.
use Rattle.std.proofs.Common.{◌≡◌, ℕ, suc, ◌+◌, ◌-◌, ◌<◌, ◌≤◌, ◌++◌, ◌∷◌, [], List, true, false, length, refl, sym, ◌∙◌, ap, arith}
use Rattle.std.proofs.lemmas.List.{append-nil}
use Rattle.std.proofs.lemmas.Bool.{cond-true, cond-false}
use Rattle.trace_rec.specs.declared.rec.Rec.{Rec}
use Rattle.split_queue.specs.Streams.{ChainFits}
use Rattle.dev_face.specs.BlkStates.{FlightState, FlightsFit, RingsUsed}
use Rattle.dev_face.specs.BlkCalls.{Intake, Taken, take_one, take_all, goes_on_with}

pub flights_push : (n : ℕ) (fs : List FlightState) (f : FlightState) → FlightsFit n fs → ChainFits n f.chain → FlightsFit n (fs ++ f ∷ [])
flights_push n [] f h i = (i, tt)
flights_push n (x ∷ fs) f h i = (h.0, flights_push n fs f h.1 i)

pub record Along (now slot sectors : ℕ) (ram : List ℕ) (x0 x : Intake) (k : ℕ) (log0 log : List Rec) : Type 0 where
  pub taken : take_all now slot sectors ram 65536 x0 ≡ take_all now slot sectors ram (65536 - k) x
  pub quiet : log ≡ log0
  pub ranges : FlightsFit (length ram) x.flying
  pub rings : RingsUsed (length ram) x.queue x.flying

pub along_start : (now slot sectors : ℕ) (ram : List ℕ) (x : Intake) (log : List Rec) → FlightsFit (length ram) x.flying → RingsUsed (length ram) x.queue x.flying → Along now slot sectors ram x x 0 log log
along_start now slot sectors ram x log h r = record { taken = refl; quiet = refl; ranges = h; rings = r }

all_more : (now slot sectors : ℕ) (ram : List ℕ) (k : ℕ) (x : Intake) → take_all now slot sectors ram (suc k) x ≡ goes_on_with (take_one now slot sectors ram x) (take_all now slot sectors ram k)
unfolding take_all
all_more now slot sectors ram k x = refl

all_none : (now slot sectors : ℕ) (ram : List ℕ) (x : Intake) → take_all now slot sectors ram 0 x ≡ record { intake = x; recs = [] }
unfolding take_all
all_none now slot sectors ram x = refl

-- one more step of what is left
step : (now slot sectors : ℕ) (ram : List ℕ) (k : ℕ) (x : Intake) → k < 65536 → take_all now slot sectors ram (65536 - k) x ≡ goes_on_with (take_one now slot sectors ram x) (take_all now slot sectors ram (65536 - (k + 1)))
step now slot sectors ram k x h =
    let e : 65536 - k ≡ suc (65536 - (k + 1)) = omega arith in
    ap (λ (n : ℕ). take_all now slot sectors ram n x) e ∙ all_more now slot sectors ram (65536 - (k + 1)) x

pub along_more : (now slot sectors : ℕ) (ram : List ℕ) (x0 x x' : Intake) (k : ℕ) (log0 log log' : List Rec) → Along now slot sectors ram x0 x k log0 log → k < 65536 → (take_one now slot sectors ram x).goes_on ≡ true → x' ≡ (take_one now slot sectors ram x).intake → log' ≡ log →
    FlightsFit (length ram) x'.flying → RingsUsed (length ram) x'.queue x'.flying → Along now slot sectors ram x0 x' (k + 1) log0 log'
along_more now slot sectors ram x0 x x' k log0 log log' a h on is same ranges rings = record {
  taken = a.taken ∙ step now slot sectors ram k x h ∙ cond-true _ _ _ on ∙ ap (take_all now slot sectors ram (65536 - (k + 1))) (sym is);
  quiet = same ∙ a.quiet;
  ranges = ranges;
  rings = rings;
}

pub record Over (now slot sectors : ℕ) (ram : List ℕ) (x0 x : Intake) (log0 log : List Rec) : Type 0 where
  pub intake : x ≡ (take_all now slot sectors ram 65536 x0).intake
  pub recs : log ≡ log0 ++ (take_all now slot sectors ram 65536 x0).recs

-- the last chain was taken
pub along_stop : (now slot sectors : ℕ) (ram : List ℕ) (x0 x x' : Intake) (k : ℕ) (log0 log log' : List Rec) → Along now slot sectors ram x0 x k log0 log → k < 65536 → (take_one now slot sectors ram x).goes_on ≡ false → x' ≡ (take_one now slot sectors ram x).intake → log' ≡ log ++ (take_one now slot sectors ram x).recs →
    Over now slot sectors ram x0 x' log0 log'
along_stop now slot sectors ram x0 x x' k log0 log log' a h off is recs =
    let all : take_all now slot sectors ram 65536 x0 ≡ record { intake = (take_one now slot sectors ram x).intake; recs = (take_one now slot sectors ram x).recs } = a.taken ∙ step now slot sectors ram k x h ∙ cond-false _ _ _ off in
    record {
      intake = is ∙ sym (ap (λ (t : Taken). t.intake) all);
      recs = recs ∙ ap (λ (l : List Rec). l ++ (take_one now slot sectors ram x).recs) a.quiet ∙ sym (ap (λ (t : Taken). log0 ++ t.recs) all);
    }

-- as many as there may be were taken
pub along_full : (now slot sectors : ℕ) (ram : List ℕ) (x0 x : Intake) (k : ℕ) (log0 log : List Rec) → Along now slot sectors ram x0 x k log0 log → 65536 ≤ k → Over now slot sectors ram x0 x log0 log
along_full now slot sectors ram x0 x k log0 log a h =
    let e : 65536 - k ≡ 0 = omega arith in
    let all : take_all now slot sectors ram 65536 x0 ≡ record { intake = x; recs = [] } = a.taken ∙ ap (λ (n : ℕ). take_all now slot sectors ram n x) e ∙ all_none now slot sectors ram x in
    record {
      intake = sym (ap (λ (t : Taken). t.intake) all);
      recs = a.quiet ∙ sym (append-nil log0) ∙ sym (ap (λ (t : Taken). log0 ++ t.recs) all);
    }
