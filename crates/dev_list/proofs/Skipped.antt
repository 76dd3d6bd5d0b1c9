-- Ticks of a list of devices that may be passed in one go.
use Rattle.std.proofs.Common.{◌≡◌, ℕ, zero, suc, ◌+◌, ◌-◌, ◌<◌, ◌≤◌, Bool, true, false, cond, ◌&&◌, map, take, drop, replicate, length, get_or, All, Option, Some, None, List, [], ◌∷◌, ◌++◌, refl, sym, ◌∙◌, ap, subst, arith}
use Rattle.std.specs.Prelude.{IfSome, nat_lt}
use Rattle.std.specs.List.{list_all}
use Rattle.std.proofs.lemmas.Bool.{and_parts}
use Rattle.std.proofs.lemmas.List.{length-map, take_more, get_or-drop}
use Rattle.std.proofs.lemmas.List.Folds.{list_all_more, list_all_at}
use Rattle.std.proofs.lemmas.List.Elements.{All-head, All-tail, All-cons, All-nil}
use Rattle.trace_rec.specs.declared.rec.Rec.{Rec}
use Rattle.dev_face.specs.States.{DevState, IsSetUp, IsComing, at_coming, kind_of}
use Rattle.dev_face.specs.Calls.{Begun, Ended, MaySkip, dev_begin, dev_lines, dev_next, dev_end_idle}
use Rattle.dev_face.proofs.Skipping.{at_again, at_kind, at_own, skipped_set_up, skipped_coming, skipped_begin, skipped_end, skipped_lines}
use Rattle.lookahead_core.specs.Lists.{list_at}
use Rattle.link_pipe.specs.PipeStates.{PipeState}
use Rattle.dev_list.specs.Sending.{sending}
use Rattle.dev_list.specs.Walks.{Walked, walk, put_first, begin_one, arriving, frames_of, nic_of, end_one, end_all, join_lines, all_lines, least_of, least_due}
use Rattle.dev_list.proofs.Listed.{state_there}

-- the least due tick of one device more
least_swap : (o p : Option ℕ) (k : ℕ) → least_of o (least_of p k) ≡ least_of p (least_of o k)
least_swap None p k = refl
least_swap (Some a) None k = refl
least_swap (Some a) (Some b) k = omega arith

pub least_push : (limit : ℕ) (ss : List DevState) (s : DevState) → least_due limit (ss ++ s ∷ []) ≡ least_of (dev_next s) (least_due limit ss)
unfolding least_due
least_push limit [] s = refl
least_push limit (x ∷ ss) s = ap (least_of (dev_next x)) (least_push limit ss s) ∙ least_swap (dev_next x) (dev_next s) (least_due limit ss)

pub least_none : (limit : ℕ) → limit ≡ least_due limit []
unfolding least_due
least_none limit = refl

pub least_at_most : (limit : ℕ) (ss : List DevState) → least_due limit ss ≤ limit
unfolding least_due
least_at_most limit [] = omega arith
least_at_most limit (s ∷ ss) = at_most (dev_next s) (least_due limit ss) (least_at_most limit ss)
  where
    at_most : (o : Option ℕ) (k : ℕ) → k ≤ limit → least_of o k ≤ limit
    at_most None k h = h
    at_most (Some tick) k h = omega (arith, h)

pub least_more : {B : Type 0} (f : B → DevState) (xs : List B) (i limit so least : ℕ) (x : B) (due : Option ℕ) → i < length xs → x ≡ get_or xs i x →
    so ≡ least_due limit (take i (map f xs)) → due ≡ dev_next (f x) → least ≡ least_of due so → least ≡ least_due limit (take (i + 1) (map f xs))
least_more f xs i limit so least x due h e es ed el =
    let len : i < length (map f xs) = simp length-map h in
    let grown : take (i + 1) (map f xs) ≡ take i (map f xs) ++ f x ∷ [] = take_more (map f xs) i (f x) len ∙ ap (λ s. take i (map f xs) ++ s ∷ []) (state_there f xs i x (f x) h e) in
    el ∙ ap (least_of due) es ∙ ap (λ o. least_of o (least_due limit (take i (map f xs)))) ed ∙ sym (ap (least_due limit) grown ∙ least_push limit (take i (map f xs)) (f x))

-- and whether one device more serves nothing
pub idle_more : {B : Type 0} (f : B → DevState) (xs : List B) (i : ℕ) (x : B) → i < length xs → x ≡ get_or xs i x →
    list_all dev_end_idle (take i (map f xs)) ≡ true → dev_end_idle (f x) ≡ true → list_all dev_end_idle (take (i + 1) (map f xs)) ≡ true
idle_more f xs i x h e so idle =
    let len : i < length (map f xs) = simp length-map h in
    list_all_more dev_end_idle (map f xs) i (f x) len
    ∙ ap (λ b. b && dev_end_idle (get_or (map f xs) i (f x))) so
    ∙ ap dev_end_idle (state_there f xs i x (f x) h e) ∙ idle

pub idle_not : {B : Type 0} (f : B → DevState) (xs : List B) (i : ℕ) (x : B) → i < length xs → x ≡ get_or xs i x → dev_end_idle (f x) ≡ false → list_all dev_end_idle (map f xs) ≡ false
idle_not f xs i x h e busy =
    let len : i < length (map f xs) = simp length-map h in
    list_all_at dev_end_idle (map f xs) i (f x) len (ap dev_end_idle (state_there f xs i x (f x) h e) ∙ busy)

-- what is below the least is below each
below : (t k : ℕ) (o : Option ℕ) → t < least_of o k → IfSome o (λ due. t < due) × (t < k)
below t k None lt = (tt, lt)
below t k (Some due) lt = (omega (arith, lt), omega (arith, lt))

up_to : (t k : ℕ) (o : Option ℕ) → t ≤ least_of o k → IfSome o (λ due. t ≤ due) × (t ≤ k)
up_to t k None le = (tt, le)
up_to t k (Some due) le = (omega (arith, le), omega (arith, le))

pub again_all : (t u : ℕ) (ss : List DevState) → map (at_coming t) (map (at_coming u) ss) ≡ map (at_coming t) ss
again_all t u [] = refl
again_all t u (s ∷ ss) = ap (λ e. e ∷ map (at_coming t) (map (at_coming u) ss)) (at_again t u s) ∙ ap (λ es. at_coming t s ∷ es) (again_all t u ss)

pub kinds_all : (t : ℕ) (ss : List DevState) → map kind_of (map (at_coming t) ss) ≡ map kind_of ss
kinds_all t [] = refl
kinds_all t (s ∷ ss) = ap (λ k. k ∷ map kind_of (map (at_coming t) ss)) (at_kind t s) ∙ ap (λ ks. kind_of s ∷ ks) (kinds_all t ss)

pub own_all : (n size : ℕ) (ss : List DevState) → All (IsComing n size) ss → map (at_coming n) ss ≡ ss
own_all n size [] all = refl
own_all n size (s ∷ ss) all =
    ap (λ e. e ∷ map (at_coming n) ss) (subst (λ t. at_coming t s ≡ s) (All-head (IsComing n size) s ss all).next (at_own s))
    ∙ ap (λ es. s ∷ es) (own_all n size ss (All-tail (IsComing n size) s ss all))

pub coming_all : (n t size : ℕ) (ss : List DevState) → All (IsComing n size) ss → All (IsComing t size) (map (at_coming t) ss)
coming_all n t size [] all = All-nil (IsComing t size)
coming_all n t size (s ∷ ss) all =
    All-cons (IsComing t size) (at_coming t s) (map (at_coming t) ss) (skipped_coming n t size s (All-head (IsComing n size) s ss all)) (coming_all n t size ss (All-tail (IsComing n size) s ss all))

pub set_up_all : (t : ℕ) (ss : List DevState) → All (MaySkip t) ss → All IsSetUp (map (at_coming t) ss)
set_up_all t [] all = All-nil IsSetUp
set_up_all t (s ∷ ss) all =
    All-cons IsSetUp (at_coming t s) (map (at_coming t) ss) (skipped_set_up t s (All-head (MaySkip t) s ss all).set_up) (set_up_all t ss (All-tail (MaySkip t) s ss all))

-- all may be passed up to the least tick that is due
pub may_skip_all : (n t size limit : ℕ) (ss : List DevState) → All (IsComing n size) ss → n ≤ t → t ≤ least_due limit ss → list_all dev_end_idle ss ≡ true → All (MaySkip t) ss
unfolding least_due
may_skip_all n t size limit [] all le due idle = All-nil (MaySkip t)
may_skip_all n t size limit (s ∷ ss) all le due idle =
    let c : IsComing n size s = All-head (IsComing n size) s ss all in
    let d : IfSome (dev_next s) (λ due. t ≤ due) × (t ≤ least_due limit ss) = up_to t (least_due limit ss) (dev_next s) due in
    let i : (dev_end_idle s ≡ true) × (list_all dev_end_idle ss ≡ true) = and_parts (dev_end_idle s) (list_all dev_end_idle ss) idle in
    All-cons (MaySkip t) s ss (record { set_up = c.set_up; later = omega (arith, c.next, le); idle = i.0; due = d.0 })
    (may_skip_all n t size limit ss (All-tail (IsComing n size) s ss all) le d.1 i.1)

-- no frames at any device
abbrev pub silent : List DevState → List (List (List ℕ))
silent ss = map (λ _. []) ss

-- a tick begins in which nothing is due and nothing arrives, and only the next tick moves
pub begun_all : (n t size limit : ℕ) (ram : List ℕ) (frames : ℕ → List (List ℕ)) → ((i : ℕ) → frames i ≡ []) → (i : ℕ) (ss : List DevState) → All (IsComing n size) ss → n ≤ t → t < least_due limit ss →
    walk (begin_one t frames) i (map (at_coming t) ss) ram ≡ record { devices = map (at_coming (t + 1)) ss; ram = ram; frames = silent ss; recs = [] }
unfolding walk least_due
begun_all n t size limit ram frames none i [] all le due = refl
begun_all n t size limit ram frames none i (s ∷ ss) all le due =
    let d : IfSome (dev_next s) (λ due. t < due) × (t < least_due limit ss) = below t (least_due limit ss) (dev_next s) due in
    ap (λ (b : Begun). put_first (record { device = b.device; ram = b.ram; frames = []; recs = b.recs }) (walk (begin_one t frames) (i + 1) (map (at_coming t) ss) b.ram))
    (ap (dev_begin (at_coming t s) t ram) (none i) ∙ skipped_begin n t size ram s (All-head (IsComing n size) s ss all) le d.0)
    ∙ ap (put_first (record { device = at_coming (t + 1) s; ram = ram; frames = []; recs = [] })) (begun_all n t size limit ram frames none (i + 1) ss (All-tail (IsComing n size) s ss all) le d.1)

-- where a device has no frames, none is offered
sends_nothing : (t : ℕ) (pipes : List (Option PipeState)) (nic : Option ℕ) → sending t pipes nic [] ≡ []
sends_nothing t pipes None = refl
sends_nothing t pipes (Some nic) = refl

abbrev with_sending : ℕ → List (Option PipeState) → Option ℕ → Ended → Ended
with_sending t pipes nic x = record { device = x.device; ram = x.ram; frames = x.frames; recs = x.recs ++ sending t pipes nic x.frames }

ended_one : (t u first i : ℕ) (pipes : List (Option PipeState)) (ram : List ℕ) (s : DevState) → dev_end_idle s ≡ true →
    end_one t first pipes i (at_coming u s) ram ≡ record { device = at_coming u s; ram = ram; frames = []; recs = [] }
ended_one t u first i pipes ram s idle =
    ap (with_sending t pipes (nic_of first i)) (skipped_end t u ram s idle)
    ∙ ap (λ (rs : List Rec). let x : Ended = record { device = at_coming u s; ram = ram; frames = []; recs = rs } in x) (sends_nothing t pipes (nic_of first i))

-- a tick ends in which nothing is served, and changes nothing
pub ended_all : (t u first : ℕ) (pipes : List (Option PipeState)) (ram : List ℕ) (i : ℕ) (ss : List DevState) → list_all dev_end_idle ss ≡ true →
    walk (end_one t first pipes) i (map (at_coming u) ss) ram ≡ record { devices = map (at_coming u) ss; ram = ram; frames = silent ss; recs = [] }
unfolding walk
ended_all t u first pipes ram i [] idle = refl
ended_all t u first pipes ram i (s ∷ ss) idle =
    let e : (dev_end_idle s ≡ true) × (list_all dev_end_idle ss ≡ true) = and_parts (dev_end_idle s) (list_all dev_end_idle ss) idle in
    ap (λ (x : Ended). put_first x (walk (end_one t first pipes) (i + 1) (map (at_coming u) ss) x.ram)) (ended_one t u first i pipes ram s e.0)
    ∙ ap (put_first (record { device = at_coming u s; ram = ram; frames = []; recs = [] })) (ended_all t u first pipes ram (i + 1) ss e.1)

-- and so does one of devices that have begun it
pub ended_idle : (now n first : ℕ) (pipes : List (Option PipeState)) (ram : List ℕ) (ss : List DevState) → All (IsComing (now + 1) n) ss → list_all dev_end_idle ss ≡ true →
    end_all ss now ram first pipes ≡ record { devices = ss; ram = ram; frames = silent ss; recs = [] }
ended_idle now n first pipes ram ss all idle =
    ap (λ (ds : List DevState). walk (end_one now first pipes) 0 ds ram) (sym (own_all (now + 1) n ss all))
    ∙ ended_all now (now + 1) first pipes ram 0 ss idle
    ∙ ap (λ (ds : List DevState). let x : Walked = record { devices = ds; ram = ram; frames = silent ss; recs = [] } in x) (own_all (now + 1) n ss all)

-- nothing arrives at any device where nothing arrives at the nics
none_listed : (n nic : ℕ) → list_at {A = List ℕ} (replicate n []) nic ≡ []
none_listed zero nic = refl
none_listed (suc n) zero = refl
none_listed (suc n) (suc nic) = none_listed n nic

pub none_arrives : (n first i : ℕ) → arriving first (replicate n []) i ≡ []
none_arrives n first i = by (nat_lt i first)
  where
    by : (b : Bool) → frames_of (replicate n []) (cond b None (Some (i - first))) ≡ []
    by true = refl
    by false = none_listed n (i - first)

-- and nothing leaves a nic where nothing leaves any device
none_there : (ss : List DevState) (nic : ℕ) → list_at (silent ss) nic ≡ []
none_there [] nic = refl
none_there (s ∷ ss) zero = refl
none_there (s ∷ ss) (suc nic) = none_there ss nic

pub none_leaves : (ss : List DevState) (first nic : ℕ) → list_at (drop first (silent ss)) nic ≡ []
none_leaves ss first nic = get_or-drop first (silent ss) nic [] ∙ none_there ss (first + nic)

-- the lines stay until something is due
pub lines_all : (n t u size limit : ℕ) (ss : List DevState) → All (IsComing n size) ss → n ≤ t → t < least_due limit ss → all_lines (map (at_coming u) ss) t ≡ all_lines ss n
unfolding all_lines least_due
lines_all n t u size limit [] all le due = refl
lines_all n t u size limit (s ∷ ss) all le due =
    let d : IfSome (dev_next s) (λ due. t < due) × (t < least_due limit ss) = below t (least_due limit ss) (dev_next s) due in
    ap (λ l. join_lines l (all_lines (map (at_coming u) ss) t)) (skipped_lines n t u size s (All-head (IsComing n size) s ss all) le d.0)
    ∙ ap (join_lines (dev_lines s n)) (lines_all n t u size limit ss (All-tail (IsComing n size) s ss all) le d.1)

-- as a walk
abbrev pub skip_one : ℕ → ℕ → DevState → List ℕ → Ended
skip_one t i s ram = record { device = at_coming t s; ram = ram; frames = []; recs = [] }

pub skip_walk : (t i : ℕ) (ram : List ℕ) (ss : List DevState) → (walk (skip_one t) i ss ram).devices ≡ map (at_coming t) ss
unfolding walk
skip_walk t i ram [] = refl
skip_walk t i ram (s ∷ ss) = ap (λ es. at_coming t s ∷ es) (skip_walk t (i + 1) ram ss)
