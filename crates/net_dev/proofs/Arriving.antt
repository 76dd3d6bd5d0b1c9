-- What becomes of frames that arrive: the first 64 wait, and those that wait are received in their order.
use Rattle.std.proofs.Common.{◌≡◌, ℕ, ◌≤◌, ◌+◌, ◌++◌, ◌∷◌, [], List, Bool, true, false, cond, nat_lt, length, map, take, drop, refl, sym, ◌∙◌, ap, subst, append_assoc, arith}
use Rattle.std.proofs.lemmas.List.{append-nil, take_all, drop_all, length_push}
use Rattle.std.proofs.lemmas.Bool.{cond-true, cond-false}
use Rattle.std.proofs.lemmas.Bool.Decides.{nat_tests}
use Rattle.std.proofs.Math.Seq.{take-append_seam, drop-append_seam}
use Rattle.trace_rec.specs.declared.rec.Rec.{Rec}
use Rattle.split_queue.specs.Streams.{stream_len}
use Rattle.split_queue.specs.Taking.{took}
use Rattle.split_queue.specs.declared.took.Took.{Took}
use Rattle.split_queue.specs.declared.took.Took.TheVariants.{Chain, Empty, Broken}
use Rattle.dev_face.specs.Queues.{Put}
use Rattle.dev_face.specs.NetCalls.{Joined, joined, Went, Delivered, delivered, deliver_one, on_buffer, goes_on_delivering}
use Rattle.net_dev.specs.Backlogs.{lost_rec, received, received_in}

below : (n : ℕ) → nat_lt n 64 ≡ true → n + 1 ≤ 64
below n h = grind (arith, nat_tests)

at_least : (n : ℕ) → nat_lt n 64 ≡ false → 64 ≤ n
at_least n h = grind (arith, nat_tests)

pub record FirstWait (now nic : ℕ) (b fs : List (List ℕ)) : Type 0 where
  pub wait : (joined now nic b fs).backlog ≡ take 64 (b ++ fs)
  pub lost : (joined now nic b fs).recs ≡ map (lost_rec now nic) (drop 64 (b ++ fs))

none_arrives : (now nic : ℕ) (b : List (List ℕ)) → length b ≤ 64 → FirstWait now nic b []
unfolding joined
none_arrives now nic b h = record {
  wait = sym (take_all 64 b h) ∙ sym (ap (λ (xs : List (List ℕ)). take 64 xs) (append-nil b));
  lost = sym (ap (λ (xs : List (List ℕ)). map (lost_rec now nic) xs) (drop_all 64 b h)) ∙ sym (ap (λ (xs : List (List ℕ)). map (lost_rec now nic) (drop 64 xs)) (append-nil b));
}

-- a backlog of 64 takes no more
full_waits : (b fs : List (List ℕ)) → length b ≡ 64 → take 64 (b ++ fs) ≡ b
full_waits b fs e = subst (λ (n : ℕ). take n (b ++ fs) ≡ b) e (take-append_seam b fs)

full_loses : (b fs : List (List ℕ)) → length b ≡ 64 → drop 64 (b ++ fs) ≡ fs
full_loses b fs e = subst (λ (n : ℕ). drop n (b ++ fs) ≡ fs) e (drop-append_seam b fs)

one_arrives : (now nic : ℕ) (b : List (List ℕ)) (f : List ℕ) (fs : List (List ℕ)) (t : Bool) → nat_lt (length b) 64 ≡ t → length b ≤ 64 → ((b' : List (List ℕ)) → length b' ≤ 64 → FirstWait now nic b' fs) → FirstWait now nic b (f ∷ fs)
unfolding joined
one_arrives now nic b f fs true e h rest =
    let r = rest (b ++ f ∷ []) (omega (arith, below (length b) e, length_push b f)) in
    let here : joined now nic b (f ∷ fs) ≡ joined now nic (b ++ f ∷ []) fs = cond-true _ _ _ e in
    let all : (b ++ f ∷ []) ++ fs ≡ b ++ f ∷ fs = append_assoc b (f ∷ []) fs in
    record {
      wait = ap (λ (j : Joined). j.backlog) here ∙ r.wait ∙ ap (λ (xs : List (List ℕ)). take 64 xs) all;
      lost = ap (λ (j : Joined). j.recs) here ∙ r.lost ∙ ap (λ (xs : List (List ℕ)). map (lost_rec now nic) (drop 64 xs)) all;
    }
one_arrives now nic b f fs false e h rest =
    let r = rest b h in
    let full : length b ≡ 64 = omega (arith, at_least (length b) e, h) in
    record {
      wait = ap (λ (j : Joined). j.backlog) (cond-false _ _ _ e) ∙ r.wait ∙ full_waits b fs full ∙ sym (full_waits b (f ∷ fs) full);
      lost = ap (λ (j : Joined). j.recs) (cond-false _ _ _ e) ∙ ap (λ (rs : List Rec). lost_rec now nic f ∷ rs) (r.lost ∙ ap (λ (xs : List (List ℕ)). map (lost_rec now nic) xs) (full_loses b fs full))
          ∙ sym (ap (λ (xs : List (List ℕ)). map (lost_rec now nic) xs) (full_loses b (f ∷ fs) full));
    }

pub first_wait : (now nic : ℕ) (b fs : List (List ℕ)) → length b ≤ 64 → FirstWait now nic b fs
first_wait now nic b [] h = none_arrives now nic b h
first_wait now nic b (f ∷ fs) h = one_arrives now nic b f fs (nat_lt (length b) 64) refl h (λ b' h'. first_wait now nic b' fs h')

-- one frame is received where that went well
record OneReceived (t : Went) (f : List ℕ) : Type 0 where
  well : t.well ≡ true → received_in t.recs ≡ f ∷ []
  not_well : t.well ≡ false → received_in t.recs ≡ []

not_received : (t : Went) (f : List ℕ) → t.well ≡ false → received_in t.recs ≡ [] → OneReceived t f
not_received t f off none = record { well = λ e. absurd cc; not_well = λ _. none }

either : (b : Bool) (t u : Went) (f : List ℕ) → OneReceived t f → OneReceived u f → OneReceived (cond b t u) f
either true t u f h k = h
either false t u f h k = k

on_buffer_received : (now nic slot : ℕ) (w : Put) (f : List ℕ) (t : Took) → OneReceived (on_buffer now nic slot w f t) f
on_buffer_received now nic slot w f Empty = not_received _ f refl refl
on_buffer_received now nic slot w f (Broken why) = not_received _ f refl refl
on_buffer_received now nic slot w f (Chain c) = either (nat_lt (stream_len c.writable) (12 + length f)) _ _ f (not_received _ f refl refl) (record { well = λ _. refl; not_well = λ e. absurd cc })

one_received : (now nic slot : ℕ) (w : Put) (f : List ℕ) → OneReceived (deliver_one now nic slot w f) f
unfolding deliver_one
one_received now nic slot w f = on_buffer_received now nic slot w f (took w.ram w.queue)

received_append : (rs ss : List Rec) → received_in (rs ++ ss) ≡ received_in rs ++ received_in ss
received_append [] ss = refl
received_append (r ∷ rs) ss = ap (λ (xs : List (List ℕ)). received r.what ++ xs) (received_append rs ss) ∙ sym (append_assoc (received r.what) (received_in rs) (received_in ss))

went_on : (t : Went) (f : List ℕ) (fs : List (List ℕ)) (rest : Put → Delivered) (b : Bool) → t.well ≡ b → OneReceived t f → received_in (rest t.put).recs ++ (rest t.put).left ≡ fs →
    received_in (goes_on_delivering t (f ∷ fs) rest).recs ++ (goes_on_delivering t (f ∷ fs) rest).left ≡ f ∷ fs
went_on t f fs rest true e one h =
    let on : goes_on_delivering t (f ∷ fs) rest ≡ record { put = (rest t.put).put; left = (rest t.put).left; recs = t.recs ++ (rest t.put).recs } = cond-true _ _ _ e in
    ap (λ (d : Delivered). received_in d.recs ++ d.left) on ∙ ap (λ (xs : List (List ℕ)). xs ++ (rest t.put).left) (received_append t.recs (rest t.put).recs ∙ ap (λ (xs : List (List ℕ)). xs ++ received_in (rest t.put).recs) (one.well e))
    ∙ ap (λ (xs : List (List ℕ)). f ∷ xs) h
went_on t f fs rest false e one h =
    let off : goes_on_delivering t (f ∷ fs) rest ≡ record { put = t.put; left = f ∷ fs; recs = t.recs } = cond-false _ _ _ e in
    ap (λ (d : Delivered). received_in d.recs ++ d.left) off ∙ ap (λ (xs : List (List ℕ)). xs ++ f ∷ fs) (one.not_well e)

pub in_order : (now nic slot : ℕ) (w : Put) (fs : List (List ℕ)) → received_in (delivered now nic slot w fs).recs ++ (delivered now nic slot w fs).left ≡ fs
unfolding delivered
in_order now nic slot w [] = refl
in_order now nic slot w (f ∷ fs) =
    let t : Went = deliver_one now nic slot w f in
    went_on t f fs (λ p. delivered now nic slot p fs) t.well refl (one_received now nic slot w f) (in_order now nic slot t.put fs)
