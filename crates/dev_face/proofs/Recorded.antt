-- Records of one tick, joined and chosen.
use Rattle.std.proofs.Common.{ℕ, Bool, true, false, cond, List, [], ◌∷◌, ◌++◌}
use Rattle.trace_rec.specs.declared.rec.Rec.{Rec}
use Rattle.trace_rec.specs.Ticks.{AreOf}

pub are_of_both : (now : ℕ) (a b : List Rec) → AreOf now a → AreOf now b → AreOf now (a ++ b)
are_of_both now [] b p q = q
are_of_both now (r ∷ rs) b p q = (p.0, are_of_both now rs b p.1 q)

pub are_of_either : {A : Type 0} (now : ℕ) (recs : A → List Rec) (b : Bool) (x y : A) → AreOf now (recs x) → AreOf now (recs y) → AreOf now (recs (cond b x y))
are_of_either now recs true x y p q = p
are_of_either now recs false x y p q = q
