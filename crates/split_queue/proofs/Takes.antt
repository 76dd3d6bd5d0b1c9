-- What taking a chain comes to, by the head that is named and the path from it.
use Rattle.std.proofs.Common.{◌≡◌, ℕ, suc, List, refl, sym, ap, ◌∙◌, ◌<◌, ◌≤◌, arith, Option, Some, None, Result, Ok}
use Rattle.tb_base.specs.declared.why.Why.{Why}
use Rattle.split_queue.specs.Chains.{ChainOf, chain_of}
use Rattle.split_queue.specs.Queues.{Queue, marked}
use Rattle.split_queue.specs.Paths.{Start, start, outcome, walked, fault_at, end, path, readable_of, writable_of}
use Rattle.split_queue.specs.Taking.{next_head, took, after_take, of_head, of_walk, RingsIn, CanPut, QueueFits}
use Rattle.split_queue.specs.Putting.{returned}
use Rattle.split_queue.specs.declared.took.Took.TheVariants.{Chain, Empty, Broken}

-- the path from a head of this queue
abbrev pub from : List ℕ → Queue → ℕ → Start
from ram q h = start ram q.desc q.size h

pub took_by : (ram : List ℕ) (q : Queue) (o : Result (Option ℕ) Why) → o ≡ next_head ram q → of_head o (λ h. of_walk (walked (from ram q h))) ≡ took ram q
unfolding took
took_by ram q o e = ap (λ (x : Result (Option ℕ) Why). of_head x (λ h. of_walk (walked (from ram q h)))) e

pub took_path : (ram : List ℕ) (q : Queue) (h : ℕ) (r : Result ChainOf Why) → Ok (Some h) ≡ next_head ram q → r ≡ walked (from ram q h) → of_walk r ≡ took ram q
took_path ram q h r e w = ap of_walk w ∙ took_by ram q (Ok (Some h)) e

outcome_head : (o : Option Why) (x c : ChainOf) → Ok c ≡ outcome o x → c.head ≡ x.head
outcome_head None x c e = cc
outcome_head (Some w) x c e = absurd cc

pub walked_head : (s : Start) (c : ChainOf) → Ok c ≡ walked s → c.head ≡ s.head
unfolding walked
walked_head s c e = outcome_head (fault_at s (end s)) (chain_of s.head (readable_of (path s (suc (end s)))) (writable_of (path s (suc (end s))))) c e

pub after_empty : (q : Queue) → q ≡ after_take q Empty
unfolding after_take
after_empty q = refl

pub after_broken : (q : Queue) (w : Why) → q ≡ after_take q (Broken w)
unfolding after_take
after_broken q w = refl

pub after_chain : (q : Queue) (s : Start) (c : ChainOf) → Ok c ≡ walked s → marked q s.head ≡ after_take q (Chain c)
unfolding after_take
after_chain q s c e = ap (marked q) (sym (walked_head s c e))

pub ready_marked : (ram : List ℕ) (q : Queue) (s : Start) (c : ChainOf) → RingsIn ram q.size q.desc q.avail q.used → s.head < q.size → q.size ≤ 64 → Ok c ≡ walked s → CanPut ram (marked q s.head) c.head
unfolding marked
ready_marked ram q s c r h z e =
    let k : c.head ≡ s.head = walked_head s c e in
    record { rings = r; inside = omega arith }

pub marked_fits : (n : ℕ) (q : Queue) (h : ℕ) → QueueFits n q → QueueFits n (marked q h)
unfolding marked
marked_fits n q h r = r

pub returned_fits : (n : ℕ) (q : Queue) (h : ℕ) → QueueFits n q → QueueFits n (returned q h)
unfolding returned
returned_fits n q h r = r
