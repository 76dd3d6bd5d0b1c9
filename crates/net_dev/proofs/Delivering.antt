-- Frames are put into buffers one by one.
use Rattle.std.proofs.Common.{◌≡◌, ℕ, ◌==◌, drop, ◌++◌, ◌∷◌, [], List, true, false, length, refl, sym, ◌∙◌, ap, append_assoc, arith}
use Rattle.std.proofs.lemmas.List.{append-nil}
use Rattle.std.proofs.lemmas.Bool.{cond-true, cond-false, eqb-true, eqb-false}
use Rattle.trace_rec.specs.declared.rec.Rec.{Rec}
use Rattle.dev_face.specs.States.{StaysInFront}
use Rattle.dev_face.specs.Queues.{Put}
use Rattle.dev_face.specs.NetCalls.{Delivered, delivered, deliver_one, goes_on_delivering}
use Rattle.net_dev.specs.Backlogs.{first_frame}
use Rattle.dev_face.proofs.Fronts.{front_same, front_of}

pub record Along (now nic slot n : ℕ) (w0 w : Put) (fs0 fs : List (List ℕ)) (log0 log : List Rec) : Type 0 where
  pub put : (delivered now nic slot w0 fs0).put ≡ (delivered now nic slot w fs).put
  pub left : (delivered now nic slot w0 fs0).left ≡ (delivered now nic slot w fs).left
  pub recs : log0 ++ (delivered now nic slot w0 fs0).recs ≡ log ++ (delivered now nic slot w fs).recs
  pub size : length w.ram ≡ n
  pub front : StaysInFront log0 log

pub along_start : (now nic slot n : ℕ) (w : Put) (fs : List (List ℕ)) (log : List Rec) → length w.ram ≡ n → Along now nic slot n w w fs fs log log
along_start now nic slot n w fs log s = record { put = refl; left = refl; recs = refl; size = s; front = front_same log }

delivered_first : (now nic slot : ℕ) (w : Put) (f : List ℕ) (fs : List (List ℕ)) → delivered now nic slot w (f ∷ fs) ≡ goes_on_delivering (deliver_one now nic slot w f) (f ∷ fs) (λ p. delivered now nic slot p fs)
unfolding delivered
delivered_first now nic slot w f fs = refl

delivered_none : (now nic slot : ℕ) (w : Put) → delivered now nic slot w [] ≡ record { put = w; left = []; recs = [] }
unfolding delivered
delivered_none now nic slot w = refl

pub along_more : (now nic slot n : ℕ) (w0 w w' : Put) (fs0 fs fs' : List (List ℕ)) (f : List ℕ) (log0 log log' : List Rec) → Along now nic slot n w0 w fs0 fs log0 log → fs ≡ f ∷ fs' → (deliver_one now nic slot w f).well ≡ true → w' ≡ (deliver_one now nic slot w f).put →
    log' ≡ log ++ (deliver_one now nic slot w f).recs → length w'.ram ≡ length w.ram → StaysInFront log log' → Along now nic slot n w0 w' fs0 fs' log0 log'
along_more now nic slot n w0 w w' fs0 fs fs' f log0 log log' a e well is more size front =
    let one : List Rec = (deliver_one now nic slot w f).recs in
    let rest : Delivered = delivered now nic slot w' fs' in
    let here : delivered now nic slot w fs ≡ record { put = rest.put; left = rest.left; recs = one ++ rest.recs } =
    ap (delivered now nic slot w) e ∙ delivered_first now nic slot w f fs' ∙ cond-true _ _ _ well
    ∙ ap (λ (p : Put). record { put = (delivered now nic slot p fs').put; left = (delivered now nic slot p fs').left; recs = one ++ (delivered now nic slot p fs').recs }) (sym is) in
    record {
      put = a.put ∙ ap (λ (x : Delivered). x.put) here;
      left = a.left ∙ ap (λ (x : Delivered). x.left) here;
      recs = a.recs ∙ ap (λ (x : Delivered). log ++ x.recs) here ∙ sym (append_assoc log one rest.recs) ∙ ap (λ (x : List Rec). x ++ rest.recs) (sym more);
      size = size ∙ a.size;
      front = front_of log0 log log' a.front front;
    }

pub record Over (now nic slot : ℕ) (w0 w : Put) (fs0 fs : List (List ℕ)) (log0 log : List Rec) : Type 0 where
  pub put : w ≡ (delivered now nic slot w0 fs0).put
  pub left : fs ≡ (delivered now nic slot w0 fs0).left
  pub recs : log ≡ log0 ++ (delivered now nic slot w0 fs0).recs

-- the first frame that is left could not be put
pub along_stop : (now nic slot n : ℕ) (w0 w w' : Put) (fs0 fs kept fs' : List (List ℕ)) (f : List ℕ) (log0 log log' : List Rec) → Along now nic slot n w0 w fs0 fs log0 log → fs ≡ f ∷ fs' → kept ≡ fs → (deliver_one now nic slot w f).well ≡ false → w' ≡ (deliver_one now nic slot w f).put →
    log' ≡ log ++ (deliver_one now nic slot w f).recs → Over now nic slot w0 w' fs0 kept log0 log'
along_stop now nic slot n w0 w w' fs0 fs kept fs' f log0 log log' a e k well is more =
    let here : delivered now nic slot w fs ≡ record { put = (deliver_one now nic slot w f).put; left = f ∷ fs'; recs = (deliver_one now nic slot w f).recs } =
    ap (delivered now nic slot w) e ∙ delivered_first now nic slot w f fs' ∙ cond-false _ _ _ well in
    record {
      put = is ∙ sym (a.put ∙ ap (λ (x : Delivered). x.put) here);
      left = k ∙ e ∙ sym (a.left ∙ ap (λ (x : Delivered). x.left) here);
      recs = more ∙ sym (a.recs ∙ ap (λ (x : Delivered). log ++ x.recs) here);
    }

pub along_end : (now nic slot n : ℕ) (w0 w : Put) (fs0 fs : List (List ℕ)) (log0 log : List Rec) → Along now nic slot n w0 w fs0 fs log0 log → fs ≡ [] → Over now nic slot w0 w fs0 fs log0 log
along_end now nic slot n w0 w fs0 fs log0 log a e =
    let here : delivered now nic slot w fs ≡ record { put = w; left = []; recs = [] } = ap (delivered now nic slot w) e ∙ delivered_none now nic slot w in
    record {
      put = sym (a.put ∙ ap (λ (x : Delivered). x.put) here);
      left = e ∙ sym (a.left ∙ ap (λ (x : Delivered). x.left) here);
      recs = sym (a.recs ∙ ap (λ (x : Delivered). log ++ x.recs) here ∙ append-nil log);
    }

-- a list that is not empty is its first frame and the others
pub first_and_rest : (fs : List (List ℕ)) (n : ℕ) → n ≡ length fs → (n == 0) ≡ false → fs ≡ first_frame fs ∷ drop 1 fs
first_and_rest [] n is some = absurd (eqb-false n 0 some is)
first_and_rest (f ∷ fs) n is some = refl

pub empty_when : (fs : List (List ℕ)) (n : ℕ) → n ≡ length fs → (n == 0) ≡ true → fs ≡ []
empty_when [] n is none = refl
empty_when (f ∷ fs) n is none = absurd (omega (arith, is, eqb-true n 0 none))
