-- The least tick in which a frame leaves one of the pipes.
use Rattle.std.proofs.Common.{◌≡◌, ℕ, zero, suc, ◌+◌, ◌<◌, ◌≤◌, min, List, [], ◌∷◌, ◌++◌, length, get_or, take, Option, Some, None, refl, sym, ◌∙◌, ap, arith, All}
use Rattle.std.specs.Prelude.{IfSome, option_map}
use Rattle.std.proofs.lemmas.List.{length-map, take_more}
use Rattle.std.proofs.lemmas.List.Elements.{All-head, All-tail, All-nil, All-cons, All-weaker}
use Rattle.lookahead_core.specs.Lists.{list_at}
use Rattle.link_pipe.specs.Offers.{Leaving, first_leave}
use Rattle.link_pipe.specs.Piped.{Piped, NoneBefore}
use Rattle.link_pipe.specs.PipeStates.{PipeState, state_of, least_leave, pipe_ended}
use Rattle.link_pipe.proofs.Waiting.{least_leave_at_most, least_leave_from, least_leave-swap, none_before_least, none_left, stays_ended}
use Rattle.dev_list.specs.Sending.{pipe_states, offer_all, pipes_offered, pipes_ended, pipes_left, left_by, least_left, least_leaving, NoneLeaves}
use Rattle.dev_list.specs.Walks.{least_of}
use Rattle.dev_list.proofs.Listed.{state_there}

-- of one pipe it is that of its first frame, where no frame leaves before that
pub first_is_least : (limit : ℕ) (fs : List Leaving) → IfSome (first_leave fs) (λ n. NoneBefore n fs) → least_of (first_leave fs) limit ≡ least_leave limit fs
first_is_least limit [] b = refl
first_is_least limit (f ∷ fs) b =
    let low : ℕ = min f.leave limit in
    let rest : NoneBefore f.leave fs = All-tail (λ (a : Leaving). f.leave ≤ a.leave) f fs b in
    let late : NoneBefore (min f.leave limit) fs = All-weaker (λ (a : Leaving). f.leave ≤ a.leave) (λ (a : Leaving). min f.leave limit ≤ a.leave) (λ a h. omega (arith, h)) fs rest in
    omega (arith, least_leave_at_most limit fs, least_leave_from (min f.leave limit) limit fs (omega arith) late)

-- of one pipe more
left_swap : (k : ℕ) (p q : Option PipeState) → least_left (least_left k p) q ≡ least_left (least_left k q) p
left_swap k None q = refl
left_swap k (Some p) None = refl
left_swap k (Some p) (Some q) = least_leave-swap k p.backlog.held q.backlog.held

leaving_push : (limit : ℕ) (ps : List (Option PipeState)) (p : Option PipeState) → least_leaving limit (ps ++ p ∷ []) ≡ least_left (least_leaving limit ps) p
leaving_push limit [] p = refl
leaving_push limit (q ∷ ps) p = ap (λ k. least_left k q) (leaving_push limit ps p) ∙ left_swap (least_leaving limit ps) p q

pub leaving_more : (xs : List (Option Piped)) (i limit so least : ℕ) (x : Option Piped) → i < length xs → x ≡ get_or xs i x → so ≡ least_leaving limit (take i (pipe_states xs)) →
    least ≡ least_left so (option_map state_of x) → least ≡ least_leaving limit (take (i + 1) (pipe_states xs))
leaving_more xs i limit so least x lt at es el =
    let len : i < length (pipe_states xs) = simp length-map lt in
    let grown : take (i + 1) (pipe_states xs) ≡ take i (pipe_states xs) ++ option_map state_of x ∷ [] =
    take_more (pipe_states xs) i (option_map state_of x) len ∙ ap (λ (p : Option PipeState). take i (pipe_states xs) ++ p ∷ []) (state_there (option_map state_of) xs i x (option_map state_of x) lt at) in
    el ∙ ap (λ k. least_left k (option_map state_of x)) es ∙ sym (ap (least_leaving limit) grown ∙ leaving_push limit (take i (pipe_states xs)) (option_map state_of x))

left_at_most : (limit : ℕ) (p : Option PipeState) → least_left limit p ≤ limit
left_at_most limit None = omega arith
left_at_most limit (Some p) = least_leave_at_most limit p.backlog.held

pub leaving_at_most : (limit : ℕ) (ps : List (Option PipeState)) → least_leaving limit ps ≤ limit
leaving_at_most limit [] = omega arith
leaving_at_most limit (p ∷ ps) = omega (arith, left_at_most (least_leaving limit ps) p, leaving_at_most limit ps)

none_by : (n k : ℕ) (p : Option PipeState) → n ≤ least_left k p → NoneLeaves n p
none_by n k None le = tt
none_by n k (Some p) le = none_before_least n k p.backlog.held le

-- no frame leaves before it
pub none_leave_before : (n limit : ℕ) (ps : List (Option PipeState)) → n ≤ least_leaving limit ps → All (NoneLeaves n) ps
none_leave_before n limit [] le = All-nil (NoneLeaves n)
none_leave_before n limit (p ∷ ps) le =
    All-cons (NoneLeaves n) p ps (none_by n (least_leaving limit ps) p le) (none_leave_before n limit ps (omega (arith, le, left_at_most (least_leaving limit ps) p)))

-- the end of a tick in which no frame is offered to a pipe, and none leaves one
pub offers_nothing : (now : ℕ) (ps : List (Option PipeState)) (fss : List (List (List ℕ))) → ((nic : ℕ) → list_at fss nic ≡ []) → pipes_offered now ps fss ≡ ps
offers_nothing now [] fss none = refl
offers_nothing now (p ∷ ps) [] none = refl
offers_nothing now (p ∷ ps) (fs ∷ fss) none =
    ap (λ (gs : List (List ℕ)). offer_all now p gs ∷ pipes_offered now ps fss) (none 0) ∙ ap (λ (qs : List (Option PipeState)). p ∷ qs) (offers_nothing now ps fss (λ nic. none (suc nic)))

same_by : (now : ℕ) (p : Option PipeState) → NoneLeaves (now + 1) p → option_map (λ p. pipe_ended p now) p ≡ p
same_by now None b = refl
same_by now (Some p) b = ap Some (stays_ended p now b)

pub pipes_stay : (now : ℕ) (ps : List (Option PipeState)) → All (NoneLeaves (now + 1)) ps → pipes_ended now ps ≡ ps
pipes_stay now [] all = refl
pipes_stay now (p ∷ ps) all =
    ap (λ (q : Option PipeState). q ∷ pipes_ended now ps) (same_by now p (All-head (NoneLeaves (now + 1)) p ps all))
    ∙ ap (λ (qs : List (Option PipeState)). p ∷ qs) (pipes_stay now ps (All-tail (NoneLeaves (now + 1)) p ps all))

left_none : (now : ℕ) (p : Option PipeState) → NoneLeaves (now + 1) p → left_by now p ≡ []
left_none now None b = refl
left_none now (Some p) b = none_left p now b

pub pipes_give_nothing : (now : ℕ) (ps : List (Option PipeState)) → All (NoneLeaves (now + 1)) ps → (nic : ℕ) → list_at (pipes_left now ps) nic ≡ []
pipes_give_nothing now [] all nic = refl
pipes_give_nothing now (p ∷ ps) all zero = left_none now p (All-head (NoneLeaves (now + 1)) p ps all)
pipes_give_nothing now (p ∷ ps) all (suc nic) = pipes_give_nothing now ps (All-tail (NoneLeaves (now + 1)) p ps all) nic
