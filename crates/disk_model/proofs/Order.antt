-- Finish ticks never fall.
use Rattle.std.proofs.Common.{◌≡◌, ℕ, zero, suc, ◌+◌, ◌*◌, ◌/◌, ◌≤◌, ◌^◌, min, max, List, sym, subst, arith, inl, inr}
use Rattle.std.proofs.lemmas.Bool.{cases_eq}
use Rattle.disk_model.specs.declared.disk_params.DiskParams.{DiskParams}
use Rattle.disk_model.specs.Service.{Request, nth, service, free_before, finish, distance}
use Rattle.disk_model.specs.Server.{Server, admitted}

-- a free time that is not past 2^63 is not lowered by one more request
max_rises : (n f s : ℕ) → f ≤ 2 ^ 63 → f ≤ min (max n f + s) (2 ^ 63)
max_rises n f s l = omega arith

free_range : (p : DiskParams) (h : List Request) (i : ℕ) → free_before p h i ≤ 2 ^ 63
free_range p h zero = omega arith
free_range p h (suc i) = omega arith

free_rises : (p : DiskParams) (h : List Request) (i j : ℕ) → i ≤ j → free_before p h i ≤ free_before p h j
free_rises p h i zero l =
    let e : i ≡ 0 = omega arith in
    subst (λ (k : ℕ). free_before p h k ≤ free_before p h 0) (sym e) (omega arith)
free_rises p h i (suc j) l = elim (cases_eq i (suc j)) [
  | inl e ↦ subst (λ (k : ℕ). free_before p h k ≤ free_before p h (suc j)) (sym e) (omega arith)
  | inr ne ↦ (let before = free_rises p h i j (omega arith) in
      let step = max_rises (nth h j).tick (free_before p h j) (service p h j) (free_range p h j) in
      omega arith)
]

pub finish_order : (p : DiskParams) (h : List Request) (i j : ℕ) → i ≤ j → finish p h i ≤ finish p h j
finish_order p h i j l = free_rises p h (suc i) (suc j) (omega arith)

pub admitted_later : (s : Server) (n a b : ℕ) → s.position.free ≤ 2 ^ 63 → s.position.free ≤ (admitted s n a b).position.free
unfolding admitted
admitted_later s n a b l =
    max_rises n s.position.free (s.costs.base + distance a s.position.head * s.costs.seek_num / s.costs.seek_den + s.costs.per_sector * b) l

pub admitted_range : (s : Server) (n a b : ℕ) → (admitted s n a b).position.free ≤ 2 ^ 63
unfolding admitted
admitted_range s n a b = omega arith
