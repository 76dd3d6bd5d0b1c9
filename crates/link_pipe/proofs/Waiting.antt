-- A pipe in a tick in which none of its frames leaves.
use Rattle.std.proofs.Common.{◌≡◌, ℕ, ◌+◌, ◌≤◌, min, true, leb, List, [], ◌∷◌, map, refl, ap, ◌∙◌, arith}
use Rattle.std.proofs.lemmas.List.Elements.{All-head, All-tail, All-nil, All-cons, All-weaker, filter_passes}
use Rattle.std.proofs.lemmas.Bool.{ne_eqb, le-leb, leb-true}
use Rattle.link_pipe.specs.Offers.{Leaving, leaving_in, leaving_from}
use Rattle.link_pipe.specs.Piped.{NoneBefore}
use Rattle.link_pipe.specs.PipeStates.{PipeState, pipe_ended, pipe_left, least_leave}

none_leaves_in : (n : ℕ) (fs : List Leaving) → NoneBefore (n + 1) fs → leaving_in n fs ≡ []
none_leaves_in n [] b = refl
none_leaves_in n (f ∷ fs) b =
    let late : n + 1 ≤ f.leave = All-head (λ (a : Leaving). n + 1 ≤ a.leave) f fs b in
    let ne : f.leave ≡ n → ⊥ = λ x. omega (arith, late, x) in
    rw (ne_eqb f.leave n ne) (none_leaves_in n fs (All-tail (λ (a : Leaving). n + 1 ≤ a.leave) f fs b))

all_leave_from : (n : ℕ) (fs : List Leaving) → NoneBefore n fs → leaving_from n fs ≡ fs
all_leave_from n [] b = refl
all_leave_from n (f ∷ fs) b =
    let late : n ≤ f.leave = All-head (λ (a : Leaving). n ≤ a.leave) f fs b in
    rw (le-leb n f.leave late) (ap (λ (xs : List Leaving). f ∷ xs) (all_leave_from n fs (All-tail (λ (a : Leaving). n ≤ a.leave) f fs b)))

pub none_left : (p : PipeState) (n : ℕ) → NoneBefore (n + 1) p.backlog.held → pipe_left p n ≡ []
none_left p n b = ap (map (λ (a : Leaving). a.frame)) (none_leaves_in n p.backlog.held b)

-- a pipe that holds these frames
abbrev pub holding : PipeState → List Leaving → PipeState
holding p fs = record { params = p.params; backlog = record { last_end = p.backlog.last_end; held = fs } }

pub stays_ended : (p : PipeState) (n : ℕ) → NoneBefore (n + 1) p.backlog.held → pipe_ended p n ≡ p
stays_ended p n b = ap (holding p) (all_leave_from (n + 1) p.backlog.held b)

-- what is held after the end of a tick leaves later
pub none_before_ended : (p : PipeState) (n : ℕ) → NoneBefore (n + 1) (pipe_ended p n).backlog.held
none_before_ended p n =
    All-weaker (λ (a : Leaving). leb (n + 1) a.leave ≡ true) (λ (a : Leaving). n + 1 ≤ a.leave) (λ a e. leb-true (n + 1) a.leave e) (leaving_from (n + 1) p.backlog.held)
    (filter_passes (λ (a : Leaving). leb (n + 1) a.leave) p.backlog.held)

-- the least of the ticks in which frames leave
pub least_leave_at_most : (limit : ℕ) (fs : List Leaving) → least_leave limit fs ≤ limit
least_leave_at_most limit [] = omega arith
least_leave_at_most limit (f ∷ fs) = omega (arith, least_leave_at_most limit fs)

pub least_leave_from : (n limit : ℕ) (fs : List Leaving) → n ≤ limit → NoneBefore n fs → n ≤ least_leave limit fs
least_leave_from n limit [] le b = le
least_leave_from n limit (f ∷ fs) le b =
    omega (arith, All-head (λ (a : Leaving). n ≤ a.leave) f fs b, least_leave_from n limit fs le (All-tail (λ (a : Leaving). n ≤ a.leave) f fs b))

pub none_before_least : (n limit : ℕ) (fs : List Leaving) → n ≤ least_leave limit fs → NoneBefore n fs
none_before_least n limit [] le = All-nil (λ (a : Leaving). n ≤ a.leave)
none_before_least n limit (f ∷ fs) le = All-cons (λ (a : Leaving). n ≤ a.leave) f fs (omega (arith, le)) (none_before_least n limit fs (omega (arith, le)))

-- two limits, and the frames of two pipes, in either order
least_leave-min : (n limit : ℕ) (fs : List Leaving) → least_leave (min n limit) fs ≡ min n (least_leave limit fs)
least_leave-min n limit [] = refl
least_leave-min n limit (f ∷ fs) =
    let rest = least_leave-min n limit fs in
    omega (arith, rest)

pub least_leave-swap : (limit : ℕ) (fs gs : List Leaving) → least_leave (least_leave limit fs) gs ≡ least_leave (least_leave limit gs) fs
least_leave-swap limit [] gs = refl
least_leave-swap limit (f ∷ fs) gs = least_leave-min f.leave (least_leave limit fs) gs ∙ ap (min f.leave) (least_leave-swap limit fs gs)
