-- The pipes of the nics when a tick ends. The devices from `first` on are the nics.
use Rattle.std.proofs.Common.{◌≡◌, ℕ, zero, suc, ◌<◌, ◌≤◌, ◌+◌, ◌-◌, ◌++◌, [], ◌∷◌, List, length, get_or, set, take, drop, cond, Bool, true, false, Option, Some, None, refl, sym, ◌∙◌, ap, arith, All, append_assoc, append-nil}
use Rattle.std.specs.Prelude.{nat_lt, option_map}
use Rattle.std.proofs.lemmas.Bool.{ltb-true, ltb-false}
use Rattle.std.proofs.lemmas.List.{get_or-drop, get_or-set_other, length-drop, length-map, map-set, take_all, take_at, drop_all}
use Rattle.std.proofs.lemmas.List.Elements.{All-map, All-weaker}
use Rattle.trace_rec.specs.declared.rec.Rec.{Rec}
use Rattle.trace_rec.specs.declared.what.What.{What}
use Rattle.trace_rec.specs.declared.what.What.TheVariants.{Sent, Dropped}
use Rattle.lookahead_core.specs.Lists.{list_at, joined}
use Rattle.lookahead_core.proofs.ListLemmas.{mapped_at, mapped_more}
use Rattle.dev_face.specs.States.{StaysInFront}
use Rattle.link_pipe.specs.Piped.{Piped, is_full}
use Rattle.link_pipe.specs.PipeStates.{PipeState, state_of, pipe_offered, pipe_ended}
use Rattle.link_pipe.proofs.Waiting.{none_before_ended}
use Rattle.dev_list.specs.Sending.{pipe_states, pipe_of, offer_one, offer_all, told, offer_recs, sending, pipes_after, pipes_offered, pipes_ended, left_by, pipes_left, NoneLeaves, MayCall}
use Rattle.dev_list.specs.Walks.{nic_of}
use Rattle.dev_list.proofs.Listed.{state_there}

-- one offer: a pipe that is full stays as it was
pub full_stays : (s : Piped) (n : ℕ) (f : List ℕ) → is_full s ≡ true → state_of s ≡ pipe_offered (state_of s) n f
full_stays s n f e = rw e refl

pub told_full : (nic : ℕ) (s : Piped) (f : List ℕ) → is_full s ≡ true → Dropped nic (length f) ≡ told nic (Some (state_of s)) f
told_full nic s f e = rw e refl

pub told_taken : (nic : ℕ) (s : Piped) (f : List ℕ) → is_full s ≡ false → Sent nic f ≡ told nic (Some (state_of s)) f
told_taken nic s f e = rw e refl

-- one offer more
pub offer_all_more : (now : ℕ) (p : Option PipeState) (fs : List (List ℕ)) (f : List ℕ) → offer_all now p (fs ++ f ∷ []) ≡ offer_one now (offer_all now p fs) f
offer_all_more now p [] f = refl
offer_all_more now p (g ∷ gs) f = offer_all_more now (offer_one now p g) gs f

abbrev rec_of : ℕ → What → Rec
rec_of now what = record { tick = now; what = what }

offer_recs_more : (now nic : ℕ) (p : Option PipeState) (fs : List (List ℕ)) (f : List ℕ) →
    offer_recs now nic p (fs ++ f ∷ []) ≡ offer_recs now nic p fs ++ rec_of now (told nic (offer_all now p fs) f) ∷ []
offer_recs_more now nic p [] f = refl
offer_recs_more now nic p (g ∷ gs) f = ap (λ (rs : List Rec). rec_of now (told nic p g) ∷ rs) (offer_recs_more now nic (offer_one now p g) gs f)

pub recs_more : (now nic : ℕ) (p0 p : Option PipeState) (fs : List (List ℕ)) (f : List ℕ) (what : What) (log0 log log' : List Rec) → log ≡ log0 ++ offer_recs now nic p0 fs → p ≡ offer_all now p0 fs →
    what ≡ told nic p f → log' ≡ log ++ rec_of now what ∷ [] → log' ≡ log0 ++ offer_recs now nic p0 (fs ++ f ∷ [])
recs_more now nic p0 p fs f what log0 log log' el ep ew e =
    e ∙ ap (λ (rs : List Rec). rs ++ rec_of now what ∷ []) el ∙ append_assoc log0 (offer_recs now nic p0 fs) (rec_of now what ∷ [])
    ∙ ap (λ (w : What). log0 ++ (offer_recs now nic p0 fs ++ rec_of now w ∷ [])) (ew ∙ ap (λ (q : Option PipeState). told nic q f) ep)
    ∙ ap (λ (rs : List Rec). log0 ++ rs) (sym (offer_recs_more now nic p0 fs f))

-- a log to whose end records were put
pub front_of_more : (log0 log more : List Rec) → log ≡ log0 ++ more → StaysInFront log0 log
front_of_more log0 log more e = ap (take (length log0)) e ∙ take_at log0 more (length log0) refl

-- the pipes after the first k nics were asked
pipes_none : (now : ℕ) (ps : List (Option PipeState)) → pipes_offered now ps [] ≡ ps
pipes_none now [] = refl
pipes_none now (p ∷ ps) = refl

still_at : (now : ℕ) (ps : List (Option PipeState)) (fss : List (List (List ℕ))) (k : ℕ) → pipe_of (pipes_offered now ps (take k fss)) k ≡ pipe_of ps k
still_at now ps fss zero = ap (λ (qs : List (Option PipeState)). pipe_of qs 0) (pipes_none now ps)
still_at now [] fss (suc k) = refl
still_at now (p ∷ ps) [] (suc k) = refl
still_at now (p ∷ ps) (fs ∷ fss) (suc k) = still_at now ps fss k

next_offered : (now : ℕ) (ps : List (Option PipeState)) (fss : List (List (List ℕ))) (k : ℕ) → k < length ps → k < length fss →
    set (pipes_offered now ps (take k fss)) k (offer_all now (pipe_of ps k) (list_at fss k)) ≡ pipes_offered now ps (take (suc k) fss)
next_offered now [] fss k lt lt2 = absurd (omega (arith, lt))
next_offered now (p ∷ ps) [] k lt lt2 = absurd (omega (arith, lt2))
next_offered now (p ∷ ps) (fs ∷ fss) zero lt lt2 = ap (λ (qs : List (Option PipeState)). offer_all now p fs ∷ qs) (sym (pipes_none now ps))
next_offered now (p ∷ ps) (fs ∷ fss) (suc k) lt lt2 = ap (λ (qs : List (Option PipeState)). offer_all now p fs ∷ qs) (next_offered now ps fss k (omega (arith, lt)) (omega (arith, lt2)))

-- after the first i devices were asked
abbrev pub Offered : ℕ → ℕ → ℕ → List (Option PipeState) → List (List (List ℕ)) → List (Option PipeState) → Type 0
Offered now first i ps0 frames ps = ps ≡ pipes_offered now ps0 (take (i - first) (drop first frames))

pub offered_start : (now first : ℕ) (ps0 : List (Option PipeState)) (frames : List (List (List ℕ))) → Offered now first 0 ps0 frames ps0
offered_start now first ps0 frames =
    let none : 0 - first ≡ 0 = omega arith in
    sym (ap (λ k. pipes_offered now ps0 (take k (drop first frames))) none ∙ pipes_none now ps0)

offered_by : (b : Bool) (now first i : ℕ) (ps0 ps ps' : List (Option PipeState)) (frames : List (List (List ℕ))) → nat_lt i first ≡ b → i < first + length ps0 → length frames ≡ first + length ps0 →
    Offered now first i ps0 frames ps → ps' ≡ pipes_after now ps (cond b None (Some (i - first))) (list_at frames i) → Offered now first (i + 1) ps0 frames ps'
offered_by true now first i ps0 ps ps' frames e lt len o e' =
    let low = ltb-true i first e in
    let same : i - first ≡ i + 1 - first = omega (arith, low) in
    e' ∙ o ∙ ap (λ k. pipes_offered now ps0 (take k (drop first frames))) same
offered_by false now first i ps0 ps ps' frames e lt len o e' =
    let low : first ≤ i = ltb-false i first e in
    let next : suc (i - first) ≡ i + 1 - first = omega (arith, low) in
    let here : first + (i - first) ≡ i = omega (arith, low) in
    let gave : list_at frames i ≡ list_at (drop first frames) (i - first) = ap (list_at frames) (sym here) ∙ sym (get_or-drop first frames (i - first) []) in
    let there : i - first < length (drop first frames) = omega (arith, length-drop first frames, len, lt, low) in
    e' ∙ ap (λ (qs : List (Option PipeState)). set qs (i - first) (offer_all now (pipe_of qs (i - first)) (list_at frames i))) o
    ∙ ap (λ (p : Option PipeState). set (pipes_offered now ps0 (take (i - first) (drop first frames))) (i - first) (offer_all now p (list_at frames i))) (still_at now ps0 (drop first frames) (i - first))
    ∙ ap (λ (fs : List (List ℕ)). set (pipes_offered now ps0 (take (i - first) (drop first frames))) (i - first) (offer_all now (pipe_of ps0 (i - first)) fs)) gave
    ∙ next_offered now ps0 (drop first frames) (i - first) (omega (arith, lt, low)) there
    ∙ ap (λ k. pipes_offered now ps0 (take k (drop first frames))) next

-- device i was asked too
pub offered_more : (now first i : ℕ) (ps0 ps ps' : List (Option PipeState)) (frames : List (List (List ℕ))) (nic : Option ℕ) (gave : List (List ℕ)) → nic ≡ nic_of first i → i < first + length ps0 →
    length frames ≡ first + length ps0 → list_at frames i ≡ gave → Offered now first i ps0 frames ps → ps' ≡ pipes_after now ps nic gave → Offered now first (i + 1) ps0 frames ps'
offered_more now first i ps0 ps ps' frames nic gave en lt len eg o e' =
    offered_by (nat_lt i first) now first i ps0 ps ps' frames refl lt len o
    (e' ∙ ap (λ (n : Option ℕ). pipes_after now ps n gave) en ∙ ap (pipes_after now ps (nic_of first i)) (sym eg))

-- all were asked
pub offered_end : (now first n : ℕ) (ps0 ps : List (Option PipeState)) (frames : List (List (List ℕ))) → length frames ≡ n → first ≤ n → Offered now first n ps0 frames ps → ps ≡ pipes_offered now ps0 (drop first frames)
offered_end now first n ps0 ps frames len le o =
    o ∙ ap (pipes_offered now ps0) (take_all (n - first) (drop first frames) (omega (arith, length-drop first frames, len)))

-- the pipe of a nic that is still to be asked is the one that it had
sending_by : (b : Bool) (now first i : ℕ) (ps0 ps : List (Option PipeState)) (frames : List (List (List ℕ))) (gave : List (List ℕ)) → Offered now first i ps0 frames ps →
    sending now ps (cond b None (Some (i - first))) gave ≡ sending now ps0 (cond b None (Some (i - first))) gave
sending_by true now first i ps0 ps frames gave o = refl
sending_by false now first i ps0 ps frames gave o =
    ap (λ (p : Option PipeState). offer_recs now (i - first) p gave) (ap (λ (qs : List (Option PipeState)). pipe_of qs (i - first)) o ∙ still_at now ps0 (drop first frames) (i - first))

pub sending_still : (now first i : ℕ) (ps0 ps : List (Option PipeState)) (frames : List (List (List ℕ))) (nic : Option ℕ) (gave : List (List ℕ)) → nic ≡ nic_of first i → Offered now first i ps0 frames ps →
    sending now ps nic gave ≡ sending now ps0 (nic_of first i) gave
sending_still now first i ps0 ps frames nic gave e o = ap (λ (n : Option ℕ). sending now ps n gave) e ∙ sending_by (nat_lt i first) now first i ps0 ps frames gave o

-- the pipe of a nic as one of the states
pub pipe_there : (xs : List (Option Piped)) (nic : ℕ) (x : Option Piped) → nic < length xs → x ≡ get_or xs nic x → pipe_of (pipe_states xs) nic ≡ option_map state_of x
pipe_there xs nic x lt at = state_there (option_map state_of) xs nic x None lt at

pub pipes_set : (now nic : ℕ) (xs : List (Option Piped)) (x y : Option Piped) (frames : List (List ℕ)) → nic < length xs → x ≡ get_or xs nic x → option_map state_of y ≡ offer_all now (option_map state_of x) frames →
    pipe_states (set xs nic y) ≡ pipes_after now (pipe_states xs) (Some nic) frames
pipes_set now nic xs x y frames lt at e =
    map-set (option_map state_of) xs nic y ∙ ap (set (pipe_states xs) nic) (e ∙ ap (λ (p : Option PipeState). offer_all now p frames) (sym (pipe_there xs nic x lt at)))

-- the pipes that gave up what leaves in a tick
pub joined_none : (xss : List (List (List ℕ))) → joined xss [] ≡ xss
joined_none [] = refl
joined_none (xs ∷ xss) = refl

pub left_more : (now : ℕ) (xss : List (List (List ℕ))) (ps : List (Option PipeState)) (i : ℕ) → i < length ps → i < length xss →
    set (joined xss (pipes_left now (take i ps))) i (list_at (joined xss (pipes_left now (take i ps))) i ++ left_by now (pipe_of ps i)) ≡ joined xss (pipes_left now (take (suc i) ps))
left_more now [] ps i lt lt2 = absurd (omega (arith, lt2))
left_more now (xs ∷ xss) [] i lt lt2 = absurd (omega (arith, lt))
left_more now (xs ∷ xss) (p ∷ ps) zero lt lt2 = ap (λ (yss : List (List (List ℕ))). (xs ++ left_by now p) ∷ yss) (sym (joined_none xss))
left_more now (xs ∷ xss) (p ∷ ps) (suc i) lt lt2 = ap (λ (yss : List (List (List ℕ))). (xs ++ left_by now p) ∷ yss) (left_more now xss ps i (omega (arith, lt)) (omega (arith, lt2)))

left_step_at : (now : ℕ) (xss xss0 : List (List (List ℕ))) (ps : List (Option PipeState)) (i : ℕ) (gave : List (List ℕ)) → i < length ps → i < length xss0 → xss ≡ joined xss0 (pipes_left now (take i ps)) →
    gave ≡ list_at xss i ++ left_by now (pipe_of ps i) → set xss i gave ≡ joined xss0 (pipes_left now (take (i + 1) ps))
left_step_at now xss xss0 ps i gave lt lt2 e eg =
    let next : suc i ≡ i + 1 = omega arith in
    ap (set xss i) eg ∙ ap (λ (yss : List (List (List ℕ))). set yss i (list_at yss i ++ left_by now (pipe_of ps i))) e ∙ left_more now xss0 ps i lt lt2
    ∙ ap (λ k. joined xss0 (pipes_left now (take k ps))) next

-- the pipes of which the first i gave up what leaves
abbrev pub GivenUp : ℕ → ℕ → List (Option PipeState) → List (Option PipeState) → Type 0
GivenUp now i ps0 ps = ps ≡ pipes_ended now (take i ps0) ++ drop i ps0

module _ (now : ℕ) (xs0 xs : List (Option Piped)) (i : ℕ) (x : Option Piped) (lt : i < length xs) (len : length xs ≡ length xs0) (at : x ≡ get_or xs i x) (so : GivenUp now i (pipe_states xs0) (pipe_states xs)) where
  lt0 : i < length (pipe_states xs0)
  lt0 = let l = length-map xs0 (option_map state_of) in omega (arith, lt, len, l)

  -- the next one is as it was
  pub was : option_map state_of x ≡ pipe_of (pipe_states xs0) i
  was = sym (pipe_there xs i x lt at) ∙ ap (λ (qs : List (Option PipeState)). pipe_of qs i) so ∙ mapped_at (option_map (λ p. pipe_ended p now)) (pipe_states xs0) i None lt0

  pub ended_more : (y : Option Piped) → option_map state_of y ≡ option_map (λ p. pipe_ended p now) (option_map state_of x) → GivenUp now (i + 1) (pipe_states xs0) (pipe_states (set xs i y))
  ended_more y e =
      let next : suc i ≡ i + 1 = omega arith in
      map-set (option_map state_of) xs i y ∙ ap (set (pipe_states xs) i) (e ∙ ap (option_map (λ p. pipe_ended p now)) was)
      ∙ ap (λ (qs : List (Option PipeState)). set qs i (option_map (λ p. pipe_ended p now) (pipe_of (pipe_states xs0) i))) so
      ∙ mapped_more (option_map (λ p. pipe_ended p now)) (pipe_states xs0) i None lt0
      ∙ ap (λ k. pipes_ended now (take k (pipe_states xs0)) ++ drop k (pipe_states xs0)) next

  -- and so its list has what left it
  pub left_step : (xss xss0 : List (List (List ℕ))) (gave : List (List ℕ)) → i < length xss0 → xss ≡ joined xss0 (pipes_left now (take i (pipe_states xs0))) →
      gave ≡ list_at xss i ++ left_by now (option_map state_of x) → set xss i gave ≡ joined xss0 (pipes_left now (take (i + 1) (pipe_states xs0)))
  left_step xss xss0 gave lt2 e eg = left_step_at now xss xss0 (pipe_states xs0) i gave lt0 lt2 e (eg ∙ ap (λ (p : Option PipeState). list_at xss i ++ left_by now p) was)

-- all did
pub ended_end : (now n : ℕ) (ps0 ps : List (Option PipeState)) → length ps0 ≤ n → GivenUp now n ps0 ps → ps ≡ pipes_ended now ps0
ended_end now n ps0 ps le so =
    so ∙ ap (λ (qs : List (Option PipeState)). pipes_ended now (take n ps0) ++ qs) (drop_all n ps0 le) ∙ append-nil (pipes_ended now (take n ps0)) ∙ ap (pipes_ended now) (take_all n ps0 le)

pub left_end : (now n : ℕ) (xss xss0 : List (List (List ℕ))) (ps : List (Option PipeState)) → length ps ≤ n → xss ≡ joined xss0 (pipes_left now (take n ps)) → xss ≡ joined xss0 (pipes_left now ps)
left_end now n xss xss0 ps le e = e ∙ ap (λ (qs : List (Option PipeState)). joined xss0 (pipes_left now qs)) (take_all n ps le)

-- the pipes that are still to be asked
pub still_after : (xs0 xs : List (Option Piped)) (i : ℕ) (y : Option Piped) → ((k : ℕ) (d : Option Piped) → i ≤ k → get_or xs k d ≡ get_or xs0 k d) → (k : ℕ) (d : Option Piped) → i + 1 ≤ k → get_or (set xs i y) k d ≡ get_or xs0 k d
still_after xs0 xs i y still k d le =
    get_or-set_other xs i k y d (λ same. absurd (omega (arith, le, same))) ∙ still k d (omega (arith, le))

later_by : (now : ℕ) (p : Option PipeState) → NoneLeaves (now + 1) (option_map (λ p. pipe_ended p now) p)
later_by now None = tt
later_by now (Some p) = none_before_ended p now

pub later_ended : (now : ℕ) (ps : List (Option PipeState)) → All (NoneLeaves (now + 1)) (pipes_ended now ps)
later_ended now ps = All-map (NoneLeaves (now + 1)) (option_map (λ (p : PipeState). pipe_ended p now)) ps (λ k d lt. later_by now (get_or ps k d))

-- who may be called in a tick may be called in the next
call_by : (now : ℕ) (p : Option Piped) → MayCall now p → MayCall (now + 1) p
call_by now None h = tt
call_by now (Some p) h = omega (arith, h)

pub call_later : (now : ℕ) (xs : List (Option Piped)) → All (MayCall now) xs → All (MayCall (now + 1)) xs
call_later now xs all = All-weaker (MayCall now) (MayCall (now + 1)) (call_by now) xs all
