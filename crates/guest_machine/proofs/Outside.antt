-- An address in no region.
use Rattle.std.proofs.Common.{◌≡◌, ℕ, ◌-◌, false, cond, List, [], ◌∷◌, refl, ap, ◌∙◌}
use Rattle.guest_machine.specs.declared.access.Access.TheVariants.{Nowhere}
use Rattle.guest_machine.specs.Regions.{Region, is_in, part_access, access_in}

abbrev pub IsOutside : List Region → ℕ → Type 0
IsOutside [] addr = Unit {0}
IsOutside (r ∷ rs) addr = (is_in r addr ≡ false) × IsOutside rs addr

pub nowhere : (rs : List Region) (count addr : ℕ) → IsOutside rs addr → access_in rs count addr ≡ Nowhere
nowhere [] count addr out = refl
nowhere (r ∷ rs) count addr out =
    ap (λ b. cond b (part_access count r.part (addr - r.base)) (access_in rs count addr)) out.0 ∙ nowhere rs count addr out.1
