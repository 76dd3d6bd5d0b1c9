use Rattle.std.proofs.Common.{◌≡◌, Bool, true, false, cond, List, [], ◌∷◌, ◌++◌, length, slice_set, sym, ◌∙◌, ap, arith, append-nil}
use Rattle.lookahead_core.specs.Lists.{list_at, joined}
use Rattle.lookahead_core.specs.Motion.{Bytes}
use Rattle.core_cases.proofs.tests.dozer.DozerNode.end_tick.Goals as goal
use Rattle.core_cases.proofs.tests.dozer.DozerNode.end_tick.Goals.{then-self+in-Ok+in_ok-push-in-Ok+in_ok-push, else-self}

-- a frame is sent on the one nic, or none
sends : (b : Bool) (f : Bytes) (left new : List (List Bytes)) → length left ≡ 1 → b ≡ true → new ≡ slice_set left 0 (list_at left 0 ++ f ∷ []) → new ≡ joined left (cond b (f ∷ []) [] ∷ [])
sends true f [] new one is e = absurd (omega arith)
sends true f (xs ∷ []) new one is e = e
sends true f (xs ∷ ys ∷ rest) new one is e = absurd (omega arith)
sends false f left new one is e = cc

keeps : (b : Bool) (f : Bytes) (left : List (List Bytes)) → length left ≡ 1 → b ≡ false → left ≡ joined left (cond b (f ∷ []) [] ∷ [])
keeps true f left one is = cc
keeps false f [] one is = absurd (omega arith)
keeps false f (xs ∷ []) one is = ap (λ zs. zs ∷ []) (sym (append-nil xs))
keeps false f (xs ∷ ys ∷ rest) one is = absurd (omega arith)

pub returns-clause-left : goal.returns-clause-left
returns-clause-left c = elim c.if-self.branch [
  | then-self+in-Ok+in_ok-push-in-Ok+in_ok-push w ↦ sends c.args.self.now.awake _ c.args.left.now c.if-self.left c.requires.lists w.if-self.true (w.left-is ∙ ap (slice_set c.args.left.now 0) (w.in_ok-push-in-Ok.ensures.ok ∙ ap (λ fs. fs ++ w.in-Ok.frame ∷ []) w.list.ensures.value) ∙ ap (λ f. slice_set c.args.left.now 0 (list_at c.args.left.now 0 ++ f ∷ [])) w.in-Ok.ensures.copy)
  | else-self w ↦ w.left-is ∙ keeps c.args.self.now.awake _ c.args.left.now c.requires.lists w.if-self.false
]
