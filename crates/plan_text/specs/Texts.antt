-- The text of a plan. Each line ends with one newline, and all its numbers are decimal.
use Rattle.std.specs.Prelude.{ℕ, suc, List, [], ◌∷◌, ◌++◌, map, length, Option, Some, None, codes}
use Rattle.std.specs.Fmt.{decimal}
use Rattle.std.specs.List.{concat, zip, range_with_len}
use Rattle.exp_file.specs.declared.experiment.Experiment.{Experiment}
use Rattle.exp_file.specs.declared.guest_spec.GuestSpec.{GuestSpec}
use Rattle.host_plan.specs.Fits.{need, have, first_overload}
use Rattle.host_plan.specs.declared.least.Least.{Least}
use Rattle.host_plan.specs.declared.overload.Overload.{Overload}

-- the factor, and how many slots and guests there are
abbrev pub head_line : Experiment → List ℕ
head_line e =
    codes "plan factor " ++ decimal e.factor ++ codes " slots " ++ decimal (length e.slots.items) ++ codes " guests " ++ decimal (length e.guests.items) ++ codes "\n"

-- what the guests on a slot need, and what it has
abbrev pub slot_line : Experiment → List ℕ → ℕ → List ℕ
slot_line e p s = codes "slot " ++ decimal s ++ codes " need " ++ decimal (need e p s) ++ codes " have " ++ decimal (have e s) ++ codes "\n"

-- the guest of this number, and the slot on which it stands
abbrev pub guest_line : ℕ → GuestSpec → ℕ → List ℕ
guest_line i g s = codes "guest " ++ decimal i ++ codes " " ++ g.name ++ codes " slot " ++ decimal s ++ codes " rate " ++ decimal g.rate ++ codes "\n"

-- guests with their slots, numbered from i on
abbrev pub guest_lines : ℕ → List (GuestSpec × ℕ) → List (List ℕ)
guest_lines i [] = []
guest_lines i (x ∷ xs) = guest_line i x.0 x.1 ∷ guest_lines (suc i) xs

-- the least factor under which the placement fits, and the least slot that needs it
abbrev pub least_line : Least → List ℕ
least_line l = codes "least " ++ decimal l.factor ++ codes " slot " ++ decimal l.slot ++ codes "\n"

-- whether the placement fits, or the least slot that is over
abbrev pub last_line : Option Overload → List ℕ
last_line None = codes "fits\n"
last_line (Some o) = codes "over " ++ decimal o.slot ++ codes " need " ++ decimal o.need ++ codes " have " ++ decimal o.have ++ codes "\n"

-- the lines of the plan of an experiment whose guests stand at p, where l is the least factor
unfoldable pub plan_lines : Experiment → List ℕ → Least → List (List ℕ)
plan_lines e p l =
    head_line e ∷ map (slot_line e p) (range_with_len 0 (length e.slots.items)) ++ guest_lines 0 (zip e.guests.items p) ++ least_line l ∷ last_line (first_overload e p) ∷ []

abbrev pub plan_text : Experiment → List ℕ → Least → List ℕ
plan_text e p l = concat (plan_lines e p l)
