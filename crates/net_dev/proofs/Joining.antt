-- Frames join the backlog one by one: the last one joins what the others left.
use Rattle.std.proofs.Common.{◌≡◌, ℕ, ◌++◌, ◌∷◌, [], List, Bool, true, false, nat_lt, length, refl, sym, ◌∙◌, ap, append_assoc}
use Rattle.std.proofs.lemmas.List.{append-nil}
use Rattle.std.proofs.lemmas.Bool.{cond-true, cond-false}
use Rattle.trace_rec.specs.declared.rec.Rec.{Rec}
use Rattle.trace_rec.specs.declared.what.What.TheVariants as what
use Rattle.dev_face.specs.States.{StaysInFront}
use Rattle.dev_face.specs.NetCalls.{Joined, joined, rec_of}
use Rattle.dev_face.proofs.Fronts.{front_same, front_of}

-- what frames do that join, and then one more
record Pushed (now nic : ℕ) (b fs : List (List ℕ)) (f : List ℕ) : Type 0 where
  backlog : (joined now nic b (fs ++ f ∷ [])).backlog ≡ (joined now nic (joined now nic b fs).backlog (f ∷ [])).backlog
  recs : (joined now nic b (fs ++ f ∷ [])).recs ≡ (joined now nic b fs).recs ++ (joined now nic (joined now nic b fs).backlog (f ∷ [])).recs

-- the first frame found room, or none
pushed_first : (now nic : ℕ) (b fs : List (List ℕ)) (x f : List ℕ) (t : Bool) → nat_lt (length b) 64 ≡ t → ((b' : List (List ℕ)) → Pushed now nic b' fs f) → Pushed now nic b (x ∷ fs) f
unfolding joined
pushed_first now nic b fs x f true e more =
    let p = more (b ++ x ∷ []) in
    let whole : joined now nic b (x ∷ fs ++ f ∷ []) ≡ joined now nic (b ++ x ∷ []) (fs ++ f ∷ []) = cond-true _ _ _ e in
    let rest : joined now nic b (x ∷ fs) ≡ joined now nic (b ++ x ∷ []) fs = cond-true _ _ _ e in
    record {
      backlog = ap (λ (j : Joined). j.backlog) whole ∙ p.backlog ∙ sym (ap (λ (j : Joined). (joined now nic j.backlog (f ∷ [])).backlog) rest);
      recs = ap (λ (j : Joined). j.recs) whole ∙ p.recs ∙ sym (ap (λ (j : Joined). j.recs ++ (joined now nic j.backlog (f ∷ [])).recs) rest);
    }
pushed_first now nic b fs x f false e more =
    let p = more b in
    let lost : Rec = rec_of now (what.Backlogged nic (length x)) in
    record {
      backlog = ap (λ (j : Joined). j.backlog) (cond-false _ _ _ e) ∙ p.backlog ∙ sym (ap (λ (j : Joined). (joined now nic j.backlog (f ∷ [])).backlog) (cond-false _ _ _ e));
      recs = ap (λ (j : Joined). j.recs) (cond-false _ _ _ e) ∙ ap (λ (rs : List Rec). lost ∷ rs) p.recs ∙ sym (ap (λ (j : Joined). j.recs ++ (joined now nic j.backlog (f ∷ [])).recs) (cond-false _ _ _ e));
    }

pushed : (now nic : ℕ) (b fs : List (List ℕ)) (f : List ℕ) → Pushed now nic b fs f
unfolding joined
pushed now nic b [] f = record { backlog = refl; recs = refl }
pushed now nic b (x ∷ fs) f = pushed_first now nic b fs x f (nat_lt (length b) 64) refl (λ b'. pushed now nic b' fs f)

none : (now nic : ℕ) (b : List (List ℕ)) → joined now nic b [] ≡ record { backlog = b; recs = [] }
unfolding joined
none now nic b = refl

-- these frames have joined
pub record Along (now nic : ℕ) (b0 b fs : List (List ℕ)) (log0 log : List Rec) : Type 0 where
  pub backlog : b ≡ (joined now nic b0 fs).backlog
  pub recs : log ≡ log0 ++ (joined now nic b0 fs).recs
  pub front : StaysInFront log0 log

pub along_start : (now nic : ℕ) (b : List (List ℕ)) (log : List Rec) → Along now nic b b [] log log
along_start now nic b log =
    let e = none now nic b in
    record { backlog = sym (ap (λ (j : Joined). j.backlog) e); recs = sym (ap (λ (j : Joined). log ++ j.recs) e ∙ append-nil log); front = front_same log }

pub along_more : (now nic : ℕ) (b0 b b' fs : List (List ℕ)) (f : List ℕ) (log0 log log' : List Rec) → Along now nic b0 b fs log0 log → b' ≡ (joined now nic b (f ∷ [])).backlog → log' ≡ log ++ (joined now nic b (f ∷ [])).recs → StaysInFront log log' →
    Along now nic b0 b' (fs ++ f ∷ []) log0 log'
along_more now nic b0 b b' fs f log0 log log' a is more front =
    let p = pushed now nic b0 fs f in
    let b1 : List (List ℕ) = (joined now nic b0 fs).backlog in
    record {
      backlog = is ∙ ap (λ (x : List (List ℕ)). (joined now nic x (f ∷ [])).backlog) a.backlog ∙ sym p.backlog;
      recs = more ∙ ap (λ (x : List (List ℕ)). log ++ (joined now nic x (f ∷ [])).recs) a.backlog ∙ ap (λ (x : List Rec). x ++ (joined now nic b1 (f ∷ [])).recs) a.recs
          ∙ append_assoc log0 (joined now nic b0 fs).recs (joined now nic b1 (f ∷ [])).recs ∙ ap (λ (x : List Rec). log0 ++ x) (sym p.recs);
      front = front_of log0 log log' a.front front;
    }
