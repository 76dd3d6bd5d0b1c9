-- What the items of an array keep with one more.
use Rattle.std.proofs.Common.{◌≡◌, ℕ, ◌<◌, All, List, [], ◌∷◌, ◌++◌, length, false, Result, Ok, Err, IfOk, subst, sym, arith}
use Rattle.std.proofs.lemmas.List.Elements.{All-push}
use Rattle.std.specs.List.{IsDistinct}
use Rattle.exp_file.specs.declared.exp_fault.ExpErr.{ExpErr}
use Rattle.exp_file.specs.declared.slot_spec.SlotSpec.{SlotSpec}
use Rattle.exp_file.specs.declared.guest_spec.GuestSpec.{GuestSpec}
use Rattle.exp_file.specs.declared.disk_spec.DiskSpec.{DiskSpec}
use Rattle.exp_file.specs.declared.link_spec.LinkSpec.{LinkSpec}
use Rattle.exp_file.specs.Disks.{disks_of}
use Rattle.exp_file.specs.Kept.{AreGuests, AreDisks, AreLinks}
use Rattle.exp_file.specs.Tables.{is_named}
use Rattle.exp_file.specs.WellFormed.{IsSlot, IsGuest, IsDisk, IsLink, IsFree}
use Rattle.exp_file.proofs.Distinct.{names_more, two_more, one_end_more}

pub kept_slots : (xs : List SlotSpec) (r : Result SlotSpec ExpErr) → All IsSlot xs → IfOk r IsSlot → IfOk r (λ x. All IsSlot (xs ++ x ∷ []))
kept_slots xs (Ok x) are well = All-push IsSlot xs x are well
kept_slots xs (Err e) are well = tt

pub no_guests : (slots : ℕ) → 0 < slots → AreGuests slots []
unfolding IsDistinct
no_guests slots some = record { some = some; well = λ i d h. absurd (omega arith); names = tt }

pub kept_guests : (slots : ℕ) (xs : List GuestSpec) (g : GuestSpec) (r : Result GuestSpec ExpErr) → AreGuests slots xs → IsGuest slots g → IfOk r (λ x. x ≡ g) → IfOk r (λ x. is_named x.name xs ≡ false)
    → IfOk r (λ x. AreGuests slots (xs ++ x ∷ []))
kept_guests slots xs g (Ok x) are well same new =
    record { some = are.some; well = All-push (IsGuest slots) xs x are.well (subst (IsGuest slots) (sym same) well); names = names_more xs x are.names new }
kept_guests slots xs g (Err e) are well same new = tt

pub kept_disks : (guests : List GuestSpec) (xs : List DiskSpec) (r : Result DiskSpec ExpErr) → AreDisks guests xs → IfOk r (IsDisk (length guests)) → IfOk r (λ x. disks_of x.guest xs < 2)
    → IfOk r (λ x. AreDisks guests (xs ++ x ∷ []))
kept_disks guests xs (Ok x) are well room =
    record { few = are.few; well = All-push (IsDisk (length guests)) xs x are.well well; two = λ g. two_more xs x g (are.two g) room }
kept_disks guests xs (Err e) are well room = tt

pub kept_links : (guests : List GuestSpec) (xs : List LinkSpec) (r : Result LinkSpec ExpErr) → AreLinks guests xs → IfOk r (IsLink guests) → IfOk r (IsFree xs)
    → IfOk r (λ x. AreLinks guests (xs ++ x ∷ []))
kept_links guests xs (Ok x) are well free =
    record { few = are.few; well = All-push (IsLink guests) xs x are.well well; one = λ g nic. one_end_more xs x g nic (are.one g nic) free }
kept_links guests xs (Err e) are well free = tt
