-- Chains are sent one by one.
use Rattle.std.proofs.Common.{◌≡◌, ℕ, suc, ◌+◌, ◌-◌, ◌<◌, ◌≤◌, ◌++◌, [], List, true, false, length, refl, sym, ◌∙◌, ap, append_assoc, arith}
use Rattle.std.proofs.lemmas.List.{append-nil}
use Rattle.std.proofs.lemmas.Bool.{cond-true, cond-false}
use Rattle.trace_rec.specs.declared.rec.Rec.{Rec}
use Rattle.dev_face.specs.States.{StaysInFront}
use Rattle.dev_face.specs.Queues.{Put}
use Rattle.dev_face.specs.NetCalls.{AllSent, Sent, send_one, send_all, goes_on_sending}
use Rattle.dev_face.proofs.Fronts.{front_same, front_of}

pub record Along (now nic slot n : ℕ) (w0 w : Put) (k : ℕ) (out0 out : List (List ℕ)) (log0 log : List Rec) : Type 0 where
  pub put : (send_all now nic slot 65536 w0).put ≡ (send_all now nic slot (65536 - k) w).put
  pub frames : out0 ++ (send_all now nic slot 65536 w0).frames ≡ out ++ (send_all now nic slot (65536 - k) w).frames
  pub recs : log0 ++ (send_all now nic slot 65536 w0).recs ≡ log ++ (send_all now nic slot (65536 - k) w).recs
  pub size : length w.ram ≡ n
  pub out_front : StaysInFront out0 out
  pub front : StaysInFront log0 log

pub along_start : (now nic slot n : ℕ) (w : Put) (out : List (List ℕ)) (log : List Rec) → length w.ram ≡ n → Along now nic slot n w w 0 out out log log
along_start now nic slot n w out log s = record { put = refl; frames = refl; recs = refl; size = s; out_front = front_same out; front = front_same log }

all_more : (now nic slot k : ℕ) (w : Put) → send_all now nic slot (suc k) w ≡ goes_on_sending (send_one now nic slot w) (send_all now nic slot k)
unfolding send_all
all_more now nic slot k w = refl

all_none : (now nic slot : ℕ) (w : Put) → send_all now nic slot 0 w ≡ record { put = w; frames = []; recs = [] }
unfolding send_all
all_none now nic slot w = refl

step : (now nic slot k : ℕ) (w : Put) → k < 65536 → send_all now nic slot (65536 - k) w ≡ goes_on_sending (send_one now nic slot w) (send_all now nic slot (65536 - (k + 1)))
step now nic slot k w h =
    let e : 65536 - k ≡ suc (65536 - (k + 1)) = omega arith in
    ap (λ (m : ℕ). send_all now nic slot m w) e ∙ all_more now nic slot (65536 - (k + 1)) w

-- what is there, what one more adds, and the rest
more : {A : Type 0} (all xs one rest ys : List A) → all ≡ xs ++ (one ++ rest) → ys ≡ xs ++ one → all ≡ ys ++ rest
more all xs one rest ys e is = e ∙ sym (append_assoc xs one rest) ∙ ap (λ (zs : List _). zs ++ rest) (sym is)

pub along_more : (now nic slot n : ℕ) (w0 w w' : Put) (k : ℕ) (out0 out out' : List (List ℕ)) (log0 log log' : List Rec) → Along now nic slot n w0 w k out0 out log0 log → k < 65536 → (send_one now nic slot w).well ≡ true → w' ≡ (send_one now nic slot w).put →
    out' ≡ out ++ (send_one now nic slot w).frames → log' ≡ log ++ (send_one now nic slot w).recs → length w'.ram ≡ length w.ram → StaysInFront out out' → StaysInFront log log' → Along now nic slot n w0 w' (k + 1) out0 out' log0 log'
along_more now nic slot n w0 w w' k out0 out out' log0 log log' a h well is os ls size of lf =
    let one : Sent = send_one now nic slot w in
    let rest : AllSent = send_all now nic slot (65536 - (k + 1)) w' in
    let here : send_all now nic slot (65536 - k) w ≡ record { put = rest.put; frames = one.frames ++ rest.frames; recs = one.recs ++ rest.recs } =
    step now nic slot k w h ∙ cond-true _ _ _ well
    ∙ ap (λ (p : Put). record { put = (send_all now nic slot (65536 - (k + 1)) p).put; frames = one.frames ++ (send_all now nic slot (65536 - (k + 1)) p).frames; recs = one.recs ++ (send_all now nic slot (65536 - (k + 1)) p).recs }) (sym is) in
    record {
      put = a.put ∙ ap (λ (x : AllSent). x.put) here;
      frames = more _ out one.frames rest.frames out' (a.frames ∙ ap (λ (x : AllSent). out ++ x.frames) here) os;
      recs = more _ log one.recs rest.recs log' (a.recs ∙ ap (λ (x : AllSent). log ++ x.recs) here) ls;
      size = size ∙ a.size;
      out_front = front_of out0 out out' a.out_front of;
      front = front_of log0 log log' a.front lf;
    }

pub record Over (now nic slot : ℕ) (w0 w : Put) (out0 out : List (List ℕ)) (log0 log : List Rec) : Type 0 where
  pub put : w ≡ (send_all now nic slot 65536 w0).put
  pub frames : out ≡ out0 ++ (send_all now nic slot 65536 w0).frames
  pub recs : log ≡ log0 ++ (send_all now nic slot 65536 w0).recs

pub along_stop : (now nic slot n : ℕ) (w0 w w' : Put) (k : ℕ) (out0 out out' : List (List ℕ)) (log0 log log' : List Rec) → Along now nic slot n w0 w k out0 out log0 log → k < 65536 → (send_one now nic slot w).well ≡ false → w' ≡ (send_one now nic slot w).put →
    out' ≡ out ++ (send_one now nic slot w).frames → log' ≡ log ++ (send_one now nic slot w).recs → Over now nic slot w0 w' out0 out' log0 log'
along_stop now nic slot n w0 w w' k out0 out out' log0 log log' a h well is os ls =
    let one : Sent = send_one now nic slot w in
    let here : send_all now nic slot (65536 - k) w ≡ record { put = one.put; frames = one.frames; recs = one.recs } = step now nic slot k w h ∙ cond-false _ _ _ well in
    record {
      put = is ∙ sym (a.put ∙ ap (λ (x : AllSent). x.put) here);
      frames = os ∙ sym (a.frames ∙ ap (λ (x : AllSent). out ++ x.frames) here);
      recs = ls ∙ sym (a.recs ∙ ap (λ (x : AllSent). log ++ x.recs) here);
    }

pub along_full : (now nic slot n : ℕ) (w0 w : Put) (k : ℕ) (out0 out : List (List ℕ)) (log0 log : List Rec) → Along now nic slot n w0 w k out0 out log0 log → 65536 ≤ k → Over now nic slot w0 w out0 out log0 log
along_full now nic slot n w0 w k out0 out log0 log a h =
    let e : 65536 - k ≡ 0 = omega arith in
    let here : send_all now nic slot (65536 - k) w ≡ record { put = w; frames = []; recs = [] } = ap (λ (m : ℕ). send_all now nic slot m w) e ∙ all_none now nic slot w in
    record {
      put = sym (a.put ∙ ap (λ (x : AllSent). x.put) here);
      frames = sym (a.frames ∙ ap (λ (x : AllSent). out ++ x.frames) here ∙ append-nil out);
      recs = sym (a.recs ∙ ap (λ (x : AllSent). log ++ x.recs) here ∙ append-nil log);
    }
