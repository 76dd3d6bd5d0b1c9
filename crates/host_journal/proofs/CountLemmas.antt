-- Counts after one more record.
use Rattle.std.proofs.Common.{◌≡◌, ◌∙◌, ℕ, ◌+◌, ◌<◌, ◌≤◌, ◌%◌, ◌^◌, List, [], ◌∷◌, ◌++◌, Bool, true, false, sym, ap, arith}
use Rattle.std.specs.Prelude.{count_by, if◌then◌else◌}
use Rattle.std.specs.List.{filter}
use Rattle.std.proofs.lemmas.Bool.{cond-true, cond-false, lt-ltb, le-ltb}
use Rattle.std.proofs.lemmas.List.{append-nil}
use Rattle.std.proofs.lemmas.List.Sums.{sum_by-cons}
use Rattle.trace_rec.specs.Shown.{is_instr}
use Rattle.trace_rec.specs.declared.rec.Rec.{Rec}
use Rattle.trace_rec.specs.declared.what.What.{What}
use Rattle.host_journal.specs.Guests.{is_below}
use Rattle.host_journal.specs.Tallies.{is_trap, is_disk, is_sent, is_dropped, is_bad, is_received, is_lost, is_uart, is_broken, is_halt, tally, counts_of, one_more, plus}
use Rattle.host_journal.specs.declared.counts.Counts.{Counts}

counted : (p : Rec → Bool) (recs : List Rec) (r : Rec) → count_by p (recs ++ r ∷ []) ≡ count_by p recs + (if p r then 1 else 0)
counted p [] r = let one = sum_by-cons (λ x. if p x then 1 else 0) r [] in omega (arith, one)
counted p (x ∷ xs) r =
    let rest = counted p xs r in
    let long = sum_by-cons (λ y. if p y then 1 else 0) x (xs ++ r ∷ []) in
    let short = sum_by-cons (λ y. if p y then 1 else 0) x xs in
    omega (arith, rest, long, short)

more_or_same : (counts : Bool) (n : ℕ) → (n + (if counts then 1 else 0)) % 2 ^ 64 ≡ plus counts (n % 2 ^ 64)
more_or_same true n = omega arith
more_or_same false n = omega arith

tally_more : (p : What → Bool) (recs : List Rec) (r : Rec) → tally p (recs ++ r ∷ []) ≡ plus (p r.what) (tally p recs)
tally_more p recs r = ap (λ (n : ℕ). n % 2 ^ 64) (counted (λ x. p x.what) recs r) ∙ more_or_same (p r.what) (count_by (λ x. p x.what) recs)

abbrev made : ℕ → ℕ → ℕ → ℕ → ℕ → ℕ → ℕ → ℕ → ℕ → ℕ → ℕ → Counts
made c0 c1 c2 c3 c4 c5 c6 c7 c8 c9 c10 = record { instructions = c0; traps = c1; disks = c2; sent = c3; dropped = c4; bad = c5; received = c6; lost = c7; bytes = c8; broken = c9; halts = c10 }

same_counts : (a0 b0 a1 b1 a2 b2 a3 b3 a4 b4 a5 b5 a6 b6 a7 b7 a8 b8 a9 b9 a10 b10 : ℕ) → a0 ≡ b0 → a1 ≡ b1 → a2 ≡ b2 → a3 ≡ b3 → a4 ≡ b4 → a5 ≡ b5 → a6 ≡ b6 → a7 ≡ b7 → a8 ≡ b8 → a9 ≡ b9 → a10 ≡ b10 → made a0 a1 a2 a3 a4 a5 a6 a7 a8 a9 a10 ≡ made b0 b1 b2 b3 b4 b5 b6 b7 b8 b9 b10
same_counts a0 b0 a1 b1 a2 b2 a3 b3 a4 b4 a5 b5 a6 b6 a7 b7 a8 b8 a9 b9 a10 b10 e0 e1 e2 e3 e4 e5 e6 e7 e8 e9 e10 = cc

pub counts_more : (recs : List Rec) (r : Rec) → counts_of (recs ++ r ∷ []) ≡ one_more r.what (counts_of recs)
counts_more recs r = same_counts _ _ _ _ _ _ _ _ _ _ _ _ _ _ _ _ _ _ _ _ _ _
    (tally_more is_instr recs r) (tally_more is_trap recs r) (tally_more is_disk recs r) (tally_more is_sent recs r) (tally_more is_dropped recs r) (tally_more is_bad recs r)
    (tally_more is_received recs r) (tally_more is_lost recs r) (tally_more is_uart recs r) (tally_more is_broken recs r) (tally_more is_halt recs r)

-- a record that is of an early tick, or not
pub early : (k : ℕ) (kept : List Rec) (r : Rec) (old new : Counts) → r.tick < k → new ≡ one_more r.what old → old ≡ counts_of kept → new ≡ counts_of (kept ++ filter (is_below k) (r ∷ []))
early k kept r old new lt e was =
    e ∙ ap (one_more r.what) was ∙ sym (counts_more kept r) ∙ ap (λ (x : List Rec). counts_of (kept ++ x)) (sym (cond-true (is_below k r) (r ∷ []) [] (lt-ltb r.tick k lt)))

pub late : (k : ℕ) (kept : List Rec) (r : Rec) (old new : Counts) → k ≤ r.tick → new ≡ old → old ≡ counts_of kept → new ≡ counts_of (kept ++ filter (is_below k) (r ∷ []))
late k kept r old new le e was =
    e ∙ was ∙ ap counts_of (sym (ap (λ (x : List Rec). kept ++ x) (cond-false (is_below k r) (r ∷ []) [] (le-ltb r.tick k le)) ∙ append-nil kept))
