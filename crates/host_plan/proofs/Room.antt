-- A placement, and what is said of it, is the same without the room of an experiment's lists.
use Rattle.std.proofs.Common.{◌≡◌, ℕ, zero, suc, List, map, length, refl, ap}
use Rattle.exp_file.specs.Lists.{without_room}
use Rattle.exp_file.specs.declared.experiment.Experiment.{Experiment}
use Rattle.host_plan.specs.declared.assignment.Assignment.{Assignment}
use Rattle.host_plan.specs.declared.least.Least.{Least}
use Rattle.host_plan.specs.declared.overload.Overload.{Overload}
use Rattle.host_plan.specs.Fits.{IsFirstOverload, IsLeast}
use Rattle.host_plan.specs.Placing.{placed, assigned, settled, settle, fills_of, assignment_of, home_of}

settled_room : (e : Experiment) (n : ℕ) (assignments : List Assignment) → settled e n assignments ≡ settled (without_room e) n assignments
unfolding settled
settled_room e zero assignments = refl
settled_room e (suc n) assignments = settled_room e n (settle (fills_of e assignments) assignments)

pub placed_room : (e : Experiment) → placed e ≡ placed (without_room e)
unfolding placed assigned
placed_room e = ap (map home_of) (settled_room e (length e.guests.items) (map assignment_of e.guests.items))

pub over_room : (e : Experiment) (p : List ℕ) (o : Overload) → IsFirstOverload e p o → IsFirstOverload (without_room e) p o
over_room e p o h = record { slot = h.slot; needs = h.needs; has = h.has; over = h.over; before = h.before }

pub least_room : (e : Experiment) (p : List ℕ) (l : Least) → IsLeast e p l → IsLeast (without_room e) p l
least_room e p l h = record { some = h.some; fits = h.fits; least = h.least; slot = h.slot; one = h.one; tight = h.tight; before = h.before }
