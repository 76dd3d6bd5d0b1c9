-- A pipe stands for its offers.
use Rattle.std.proofs.Common.{◌≡◌, ℕ, zero, suc, ◌+◌, ◌*◌, ◌/◌, ◌-◌, ◌≤◌, ◌<◌, max, List, [], ◌∷◌, ◌++◌, length, map, refl, sym, ap, ◌∙◌, arith, nat_le, true, false, Bool, cond, eqb, leb, subst, Option, Some, None}
use Rattle.std.proofs.lemmas.List.{length_push, get_or_append_left, get_or_push}
use Rattle.std.proofs.lemmas.List.Sums.{length-filter}
use Rattle.std.proofs.lemmas.List.Elements.{All-head, All-tail, filter-append}
use Rattle.std.proofs.lemmas.Bool.{eqb-true, eqb-false, ne_eqb, le-leb, lt-leb, leb-false}
use Rattle.std.proofs.Math.Nat.{le-div_iff_mul-le}
use Rattle.link_pipe.specs.declared.pipe_params.PipeParams.{PipeParams}
use Rattle.link_pipe.specs.Offers.{Offer, offer, Leaving, leaving, Past, PipeAt, nth, end_of, leave_of, is_dropped, after_offer, past, fate, accepted, leaving_in, leaving_from}
use Rattle.link_pipe.specs.Piped.{Piped, StandsFor, NoneBefore, InOrder, is_full, placed, offered, ended, front_in, rest_in}
use Rattle.link_pipe.specs.PipeStates.{state_of, pipe_offered, pipe_ended, pipe_left}
use Rattle.link_pipe.specs.Answers.{answer_of}
use Rattle.link_pipe.proofs.Waiting.{holding}
use Rattle.link_pipe.specs.declared.offered.Offered.TheVariants.{Taken, Dropped}

nth_before : (h : List Offer) (o : Offer) (i : ℕ) → i < length h → nth (h ++ o ∷ []) i ≡ nth h i
nth_before h o i l = get_or_append_left h (o ∷ []) (offer 0 []) i l

past_push : (p : PipeParams) (h : List Offer) (o : Offer) (i : ℕ) → i ≤ length h → past p (h ++ o ∷ []) i ≡ past p h i
past_push p h o zero l = refl
past_push p h o (suc i) l =
    let e = nth_before h o i (omega arith) in
    let f = past_push p h o i (omega arith) in
    ap (λ (x : Past). after_offer p x (nth (h ++ o ∷ []) i)) f ∙ ap (λ (x : Offer). after_offer p (past p h i) x) e

past_last : (p : PipeParams) (h : List Offer) (o : Offer) → past p (h ++ o ∷ []) (length (h ++ o ∷ [])) ≡ after_offer p (past p h (length h)) o
past_last p h o =
    let k : length (h ++ o ∷ []) ≡ suc (length h) = omega (arith, length_push h o) in
    ap (past p (h ++ o ∷ [])) k ∙ (ap (λ (x : Past). after_offer p x (nth (h ++ o ∷ []) (length h))) (past_push p h o (length h) (omega arith)) ∙ ap (λ (x : Offer). after_offer p (past p h (length h)) x) (get_or_push h o (offer 0 []) (length h) refl))

fate_last : (p : PipeParams) (h : List Offer) (o : Offer) → fate p (h ++ o ∷ []) (length h) ≡ cond (is_dropped p (past p h (length h)) o) None (Some (leave_of p (past p h (length h)) o))
fate_last p h o =
    let F : Past → Offer → Option ℕ = λ x y. cond (is_dropped p x y) None (Some (leave_of p x y)) in
    ap (λ (x : Past). F x (nth (h ++ o ∷ []) (length h))) (past_push p h o (length h) (omega arith)) ∙ ap (λ (x : Offer). F (past p h (length h)) x) (get_or_push h o (offer 0 []) (length h) refl)

from_push : (n l : ℕ) (f : List ℕ) (fs : List Leaving) → n ≤ l → leaving_from n (fs ++ leaving l f ∷ []) ≡ leaving_from n fs ++ leaving l f ∷ []
from_push n l f fs h =
    let p : Leaving → Bool = λ a. leb n a.leave in
    filter-append p fs (leaving l f ∷ []) ∙ ap (λ (t : Bool). leaving_from n fs ++ cond t (leaving l f ∷ []) []) (le-leb n l h)

leave_is_late : (b n e : ℕ) (f : List ℕ) → 1 ≤ b → 1 ≤ length f → n ≤ (max (n * b) e + length f - 1) / b
leave_is_late b n e f h k = (le-div_iff_mul-le {k = b} {x = n} {y = max (n * b) e + length f - 1} (omega arith)).1 (omega arith)

-- what is held of a past at tick n
abbrev now_at : ℕ → Past → PipeAt
now_at n x = record { last_end = x.last_end; held = leaving_from n x.accepted }

-- the past with the frame accepted
abbrev more : PipeParams → Past → ℕ → List ℕ → Past
more p x n f = record { last_end = end_of p x (offer n f); accepted = x.accepted ++ leaving (leave_of p x (offer n f)) f ∷ [] }

placed_test : (p : PipeParams) (x : Past) (n : ℕ) (f : List ℕ) (t : Bool) → 1 ≤ p.bandwidth → 1 ≤ length f → cond t (now_at n x) (record { last_end = end_of p x (offer n f); held = leaving_from n x.accepted ++ leaving (leave_of p x (offer n f)) f ∷ [] }) ≡ now_at n (cond t x (more p x n f))
placed_test p x n f true hb hf = refl
placed_test p x n f false hb hf =
    ap (λ (fs : List Leaving). let at : PipeAt = record { last_end = end_of p x (offer n f); held = fs } in at) (sym (from_push n (leave_of p x (offer n f)) f x.accepted (leave_is_late p.bandwidth n x.last_end f hb hf)))

-- dropped by all the earlier frames exactly where those held are enough
dropped_is : (p : PipeParams) (x : Past) (n : ℕ) (f : List ℕ) → nat_le p.queue (length (leaving_from n x.accepted)) ≡ is_dropped p x (offer n f)
dropped_is p x n f =
    let q : Leaving → Bool = λ a. leb n a.leave in
    ap (λ (k : ℕ). leb p.queue k) (length-filter q x.accepted)

placed_now : (p : PipeParams) (x : Past) (n : ℕ) (f : List ℕ) → 1 ≤ p.bandwidth → 1 ≤ length f → placed p (now_at n x) n f ≡ now_at n (after_offer p x (offer n f))
placed_now p x n f hb hf =
    placed_test p x n f (nat_le p.queue (length (leaving_from n x.accepted))) hb hf ∙ ap (λ (t : Bool). now_at n (cond t x (more p x n f))) (dropped_is p x n f)

pub stands_offered : (s : Piped) (h : List Offer) (n : ℕ) (f : List ℕ) → 1 ≤ s.params.bandwidth → 1 ≤ length f → StandsFor s h n → StandsFor (offered s n f) (h ++ offer n f ∷ []) n
unfolding offered
stands_offered s h n f hb hf e =
    ap (λ (at : PipeAt). placed s.params at n f) e ∙ (placed_now s.params (past s.params h (length h)) n f hb hf ∙ ap (now_at n) (sym (past_last s.params h (offer n f))))

answer_test : (l : ℕ) (f : List ℕ) (t : Bool) → answer_of (cond t None (Some l)) f ≡ cond t (Dropped f) Taken
answer_test l f true = refl
answer_test l f false = refl

pub answer_offered : (s : Piped) (h : List Offer) (n : ℕ) (f : List ℕ) → StandsFor s h n → cond (is_full s) (Dropped f) Taken ≡ answer_of (fate s.params (h ++ offer n f ∷ []) (length h)) f
answer_offered s h n f e =
    let x : Past = past s.params h (length h) in
    ap (λ (at : PipeAt). cond (nat_le s.params.queue (length at.held)) (Dropped f) Taken) e ∙ (ap (λ (t : Bool). cond t (Dropped f) Taken) (dropped_is s.params x n f) ∙ (sym (answer_test (leave_of s.params x (offer n f)) f (is_dropped s.params x (offer n f))) ∙ ap (λ (y : Option ℕ). answer_of y f) (sym (fate_last s.params h (offer n f)))))

from_later : (n m : ℕ) (fs : List Leaving) → n ≤ m → NoneBefore m (leaving_from n fs) → leaving_from n fs ≡ leaving_from m fs
from_later n m [] a b = refl
from_later n m (f ∷ fs) a b =
    elim (leb n f.leave) as (λ t. leb n f.leave ≡ t → NoneBefore m (cond t (f ∷ leaving_from n fs) (leaving_from n fs)) → cond t (f ∷ leaving_from n fs) (leaving_from n fs) ≡ leaving_from m (f ∷ fs)) [
      | true ↦ λ q c. rw (le-leb m f.leave (All-head (λ (x : Leaving). m ≤ x.leave) f (leaving_from n fs) c)) (ap (λ (xs : List Leaving). f ∷ xs) (from_later n m fs a (All-tail (λ (x : Leaving). m ≤ x.leave) f (leaving_from n fs) c)))
      | false ↦ λ q c. let low : f.leave < m = omega (arith, leb-false n f.leave q) in rw (lt-leb m f.leave low) (from_later n m fs a c)
    ] refl b

pub later_stands : (s : Piped) (h : List Offer) (n m : ℕ) → StandsFor s h n → n ≤ m → NoneBefore m s.backlog.held → StandsFor s h m
later_stands s h n m e a b =
    e ∙ ap (λ (fs : List Leaving). let at : PipeAt = record { last_end = (past s.params h (length h)).last_end; held = fs } in at) (from_later n m (accepted s.params h) a (subst (λ (at : PipeAt). NoneBefore m at.held) e b))

in_from : (n : ℕ) (fs : List Leaving) → leaving_in n (leaving_from n fs) ≡ leaving_in n fs
in_from n [] = refl
in_from n (f ∷ fs) =
    elim (leb n f.leave) as (λ t. leb n f.leave ≡ t → leaving_in n (cond t (f ∷ leaving_from n fs) (leaving_from n fs)) ≡ leaving_in n (f ∷ fs)) [
      | true ↦ λ q. ap (λ (xs : List Leaving). cond (eqb f.leave n) (f ∷ xs) xs) (in_from n fs)
      | false ↦ λ q. let low : f.leave < n = leb-false n f.leave q in let ne : f.leave ≡ n → ⊥ = λ x. omega arith in rw (ne_eqb f.leave n ne) (in_from n fs)
    ] refl

from_from : (n m : ℕ) (fs : List Leaving) → n ≤ m → leaving_from m (leaving_from n fs) ≡ leaving_from m fs
from_from n m [] a = refl
from_from n m (f ∷ fs) a =
    elim (leb n f.leave) as (λ t. leb n f.leave ≡ t → leaving_from m (cond t (f ∷ leaving_from n fs) (leaving_from n fs)) ≡ leaving_from m (f ∷ fs)) [
      | true ↦ λ q. ap (λ (xs : List Leaving). cond (leb m f.leave) (f ∷ xs) xs) (from_from n m fs a)
      | false ↦ λ q. let low : f.leave < m = omega (arith, leb-false n f.leave q) in rw (lt-leb m f.leave low) (from_from n m fs a)
    ] refl

none_in : (b n m e : ℕ) (fs : List Leaving) → n < m → InOrder b m e fs → leaving_in n fs ≡ []
none_in b n m e [] l o = refl
none_in b n m e (f ∷ fs) l o =
    let ne : f.leave ≡ n → ⊥ = λ x. omega (arith, o.0) in
    rw (ne_eqb f.leave n ne) (none_in b n f.leave e fs (omega (arith, o.0)) o.2)

all_from : (b k m e : ℕ) (fs : List Leaving) → k ≤ m → InOrder b m e fs → leaving_from k fs ≡ fs
all_from b k m e [] l o = refl
all_from b k m e (f ∷ fs) l o =
    let le : k ≤ f.leave = omega (arith, o.0) in
    rw (le-leb k f.leave le) (ap (λ (xs : List Leaving). f ∷ xs) (all_from b k f.leave e fs le o.2))

pub front_is : (b m n e : ℕ) (fs : List Leaving) → n ≤ m → InOrder b m e fs → front_in n fs ≡ map (λ a. a.frame) (leaving_in n fs)
front_is b m n e [] l o = refl
front_is b m n e (f ∷ fs) l o =
    elim (eqb f.leave n) as (λ t. eqb f.leave n ≡ t → cond t (f.frame ∷ front_in n fs) [] ≡ map (λ a. a.frame) (cond t (f ∷ leaving_in n fs) (leaving_in n fs))) [
      | true ↦ λ q. ap (λ (xs : List (List ℕ)). f.frame ∷ xs) (front_is b f.leave n e fs (omega (arith, o.0)) o.2)
      | false ↦ λ q. let ne : f.leave ≡ n → ⊥ = eqb-false f.leave n q in ap (map (λ (a : Leaving). a.frame)) (sym (none_in b n f.leave e fs (omega (arith, o.0)) o.2))
    ] refl

pub rest_is : (b m n e : ℕ) (fs : List Leaving) → n ≤ m → InOrder b m e fs → rest_in n fs ≡ leaving_from (n + 1) fs
rest_is b m n e [] l o = refl
rest_is b m n e (f ∷ fs) l o =
    elim (eqb f.leave n) as (λ t. eqb f.leave n ≡ t → cond t (rest_in n fs) (f ∷ fs) ≡ leaving_from (n + 1) (f ∷ fs)) [
      | true ↦ λ q. let low : f.leave < n + 1 = omega (arith, eqb-true f.leave n q) in rw (lt-leb (n + 1) f.leave low) (rest_is b f.leave n e fs (omega (arith, o.0)) o.2)
      | false ↦ λ q. let ne : f.leave ≡ n → ⊥ = eqb-false f.leave n q in let le : n + 1 ≤ f.leave = omega (arith, o.0) in sym (all_from b (n + 1) f.leave e (f ∷ fs) le (omega arith, o.1, o.2))
    ] refl

pub stands_ended : (s : Piped) (h : List Offer) (n : ℕ) → InOrder s.params.bandwidth n s.backlog.last_end s.backlog.held → StandsFor s h n → StandsFor (ended s n) h (n + 1)
unfolding ended
stands_ended s h n o e =
    let x : Past = past s.params h (length h) in
    let r : rest_in n s.backlog.held ≡ leaving_from (n + 1) x.accepted = rest_is s.params.bandwidth n n s.backlog.last_end s.backlog.held (omega arith) o ∙ (ap (λ (at : PipeAt). leaving_from (n + 1) at.held) e ∙ from_from n (n + 1) x.accepted (omega arith)) in
    let l : s.backlog.last_end ≡ x.last_end = ap (λ (at : PipeAt). at.last_end) e in
    cc

pub given_ended : (s : Piped) (h : List Offer) (n : ℕ) → InOrder s.params.bandwidth n s.backlog.last_end s.backlog.held → StandsFor s h n → front_in n s.backlog.held ≡ map (λ a. a.frame) (leaving_in n (accepted s.params h))
given_ended s h n o e =
    front_is s.params.bandwidth n n s.backlog.last_end s.backlog.held (omega arith) o ∙ ap (map (λ (a : Leaving). a.frame)) (ap (λ (at : PipeAt). leaving_in n at.held) e ∙ in_from n (accepted s.params h))

pub params_offered : (s : Piped) (n : ℕ) (f : List ℕ) → (offered s n f).params ≡ s.params
unfolding offered
params_offered s n f = refl

pub least_offered : (s : Piped) (n : ℕ) (f : List ℕ) → (offered s n f).least ≡ n
unfolding offered
least_offered s n f = refl

pub params_ended : (s : Piped) (n : ℕ) → (ended s n).params ≡ s.params
unfolding ended
params_ended s n = refl

pub least_ended : (s : Piped) (n : ℕ) → (ended s n).least ≡ n + 1
unfolding ended
least_ended s n = refl

pub state_offered : (s : Piped) (n : ℕ) (f : List ℕ) → state_of (offered s n f) ≡ pipe_offered (state_of s) n f
unfolding offered
state_offered s n f = refl

pub state_ended : (s : Piped) (n : ℕ) → InOrder s.params.bandwidth n s.backlog.last_end s.backlog.held → state_of (ended s n) ≡ pipe_ended (state_of s) n
unfolding ended
state_ended s n o = ap (holding (state_of s)) (rest_is s.params.bandwidth n n s.backlog.last_end s.backlog.held (omega arith) o)

pub left_ended : (s : Piped) (n : ℕ) → InOrder s.params.bandwidth n s.backlog.last_end s.backlog.held → front_in n s.backlog.held ≡ pipe_left (state_of s) n
left_ended s n o = front_is s.params.bandwidth n n s.backlog.last_end s.backlog.held (omega arith) o
