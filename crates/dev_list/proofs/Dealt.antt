-- The lists of nics in a walk in which the first i devices were asked. The devices from `first` on are the nics.
use Rattle.std.proofs.Common.{◌≡◌, ℕ, ◌<◌, ◌≤◌, ◌+◌, ◌-◌, [], List, length, map, get_or, set, drop, cond, Bool, true, false, Option, Some, None, ◌⊎◌, inl, inr, refl, sym, ◌∙◌, ap, subst, arith, All, length-set}
use Rattle.std.specs.Prelude.{nat_lt, IfSome}
use Rattle.std.proofs.lemmas.Bool.{true≢false, ltb-true, ltb-false, cases_order}
use Rattle.std.proofs.lemmas.List.{get_or-set_same, get_or-set_other, get_or-map, get_or-drop, length-map, length-drop}
use Rattle.std.proofs.lemmas.List.Elements.{All-get_or, All-from_get_or}
use Rattle.lookahead_core.specs.Lists.{list_at}
use Rattle.dev_face.specs.declared.kind.Kind.{Kind}
use Rattle.dev_face.specs.States.{DevState, MayArrive, kind_of, takes_frames}
use Rattle.dev_list.specs.Walks.{AreNics, nic_of, frames_of, with_frames, arriving}
use Rattle.dev_list.proofs.Listed.{state_there}

-- each nic that was asked has the list that `is` says, and each other one the list that it had
pub record Dealt (first i : ℕ) (is : ℕ → List (List ℕ)) (lists0 lists : List (List (List ℕ))) : Type 0 where
  pub count : length lists ≡ length lists0
  pub asked : (n : ℕ) → first + n < i → list_at lists n ≡ is n
  pub later : (n : ℕ) → i ≤ first + n → list_at lists n ≡ list_at lists0 n

pub dealt_start : (first : ℕ) (is : ℕ → List (List ℕ)) (lists : List (List (List ℕ))) → Dealt first 0 is lists lists
dealt_start first is lists = record { count = refl; asked = λ n lt. absurd (omega (arith, lt)); later = λ n le. refl }

dealt_by : (b : Bool) (first i : ℕ) (is : ℕ → List (List ℕ)) (lists0 lists : List (List (List ℕ))) (fs : List (List ℕ)) → nat_lt i first ≡ b → Dealt first i is lists0 lists →
    i < first + length lists → (first ≤ i → fs ≡ is (i - first)) → Dealt first (i + 1) is lists0 (with_frames lists (cond b None (Some (i - first))) fs)
dealt_by true first i is lists0 lists fs e d lt h =
    let low = ltb-true i first e in
    record { count = d.count; asked = λ n less. d.asked n (omega (arith, less, low)); later = λ n le. d.later n (omega (arith, le)) }
dealt_by false first i is lists0 lists fs e d lt h = record {
  count = length-set lists (i - first) fs ∙ d.count;
  asked = λ n less. by n less (cases_order n (i - first));
  later = λ n le. get_or-set_other lists (i - first) n fs [] (λ same. absurd (omega (arith, le, low, same))) ∙ d.later n (omega (arith, le));
}
  where
    low : first ≤ i
    low = ltb-false i first e

    by : (n : ℕ) → first + n < i + 1 → (n ≡ i - first) ⊎ ((n < i - first) ⊎ (i - first < n)) → list_at (set lists (i - first) fs) n ≡ is n
    by n less (inl same) = ap (list_at (set lists (i - first) fs)) same ∙ get_or-set_same lists (i - first) fs [] (omega (arith, lt, low)) ∙ h low ∙ ap is (sym same)
    by n less (inr (inl below)) = get_or-set_other lists (i - first) n fs [] (λ same. absurd (omega (arith, below, same))) ∙ d.asked n (omega (arith, below))
    by n less (inr (inr above)) = absurd (omega (arith, less, above, low))

-- device i was asked too, and fs is what its list is now, if it is a nic
pub dealt_more : (first i : ℕ) (is : ℕ → List (List ℕ)) (lists0 lists lists' : List (List (List ℕ))) (nic : Option ℕ) (fs : List (List ℕ)) → nic ≡ nic_of first i → Dealt first i is lists0 lists →
    i < first + length lists → (first ≤ i → fs ≡ is (i - first)) → lists' ≡ with_frames lists nic fs → Dealt first (i + 1) is lists0 lists'
dealt_more first i is lists0 lists lists' nic fs e d lt h e' =
    subst (Dealt first (i + 1) is lists0) (sym (e' ∙ ap (λ (o : Option ℕ). with_frames lists o fs) e)) (dealt_by (nat_lt i first) first i is lists0 lists fs refl d lt h)

-- the frames of a device that is still to be asked are those that it had
frames_by : (b : Bool) (first i : ℕ) (is : ℕ → List (List ℕ)) (lists0 lists : List (List (List ℕ))) → nat_lt i first ≡ b → Dealt first i is lists0 lists →
    frames_of lists (cond b None (Some (i - first))) ≡ frames_of lists0 (cond b None (Some (i - first)))
frames_by true first i is lists0 lists e d = refl
frames_by false first i is lists0 lists e d = d.later (i - first) (omega (arith, ltb-false i first e))

pub frames_still : (first i : ℕ) (is : ℕ → List (List ℕ)) (lists0 lists : List (List (List ℕ))) (nic : Option ℕ) → nic ≡ nic_of first i → Dealt first i is lists0 lists →
    frames_of lists nic ≡ arriving first lists0 i
frames_still first i is lists0 lists nic e d = ap (frames_of lists) e ∙ frames_by (nat_lt i first) first i is lists0 lists refl d

-- the list of a nic is there
there_by : (b : Bool) (first i n : ℕ) → nat_lt i first ≡ b → i < first + n → IfSome (cond b None (Some (i - first))) (λ k. k < n)
there_by true first i n e lt = tt
there_by false first i n e lt = omega (arith, lt, ltb-false i first e)

pub nic_there : (first i n : ℕ) (nic : Option ℕ) → nic ≡ nic_of first i → i < first + n → IfSome nic (λ k. k < n)
nic_there first i n nic e lt = subst (λ (o : Option ℕ). IfSome o (λ k. k < n)) (sym e) (there_by (nat_lt i first) first i n refl lt)

-- frames may arrive at a device that is a nic
arrive_by : (b : Bool) (first i : ℕ) (s : DevState) (ks : List Kind) (lists : List (List (List ℕ))) → nat_lt i first ≡ b → i < length ks → get_or ks i (kind_of s) ≡ kind_of s →
    All (λ k. takes_frames k ≡ true) (drop first ks) → MayArrive s (frames_of lists (cond b None (Some (i - first))))
arrive_by true first i s ks lists e lt at all = λ no. refl
arrive_by false first i s ks lists e lt at all = λ no.
    let low : first ≤ i = ltb-false i first e in
    let yes : takes_frames (get_or (drop first ks) (i - first) (kind_of s)) ≡ true = All-get_or (λ k. takes_frames k ≡ true) (drop first ks) (i - first) (kind_of s) (simp length-drop (omega (arith, lt, low))) all in
    let place : first + (i - first) ≡ i = omega (arith, low) in
    let is : get_or (drop first ks) (i - first) (kind_of s) ≡ kind_of s = get_or-drop first ks (i - first) (kind_of s) ∙ ap (λ k. get_or ks k (kind_of s)) place ∙ at in
    absurd (true≢false (sym yes ∙ ap takes_frames is ∙ no))

pub may_arrive : {B : Type 0} (f : B → DevState) (xs : List B) (ks : List Kind) (first i n : ℕ) (x : B) (lists : List (List (List ℕ))) (nic : Option ℕ) → nic ≡ nic_of first i → map kind_of (map f xs) ≡ ks →
    AreNics n ks → first + n ≡ length xs → i < length xs → x ≡ get_or xs i x → MayArrive (f x) (frames_of lists nic)
may_arrive f xs ks first i n x lists nic e same nics whole lt at =
    let len : length ks ≡ length xs = ap length (sym same) ∙ length-map (map f xs) kind_of ∙ length-map xs f in
    let from : length ks - n ≡ first = omega (arith, len, whole) in
    let kind_at : get_or ks i (kind_of (f x)) ≡ kind_of (f x) =
    ap (λ (zs : List Kind). get_or zs i (kind_of (f x))) (sym same) ∙ get_or-map kind_of (map f xs) i (f x) (kind_of (f x)) (simp length-map lt) ∙ ap kind_of (state_there f xs i x (f x) lt at) in
    subst (λ (o : Option ℕ). MayArrive (f x) (frames_of lists o)) (sym e)
    (arrive_by (nat_lt i first) first i (f x) ks lists refl (omega (arith, len, lt)) kind_at (subst (λ k. All (λ k. takes_frames k ≡ true) (drop k ks)) from nics))

-- all devices were asked, and each list is empty
pub dealt_empty : (first n : ℕ) (lists0 lists : List (List (List ℕ))) → Dealt first n (λ _. []) lists0 lists → first + length lists0 ≡ n → All (λ l. l ≡ []) lists
dealt_empty first n lists0 lists d whole = All-from_get_or (λ l. l ≡ []) lists [] (λ i lt. d.asked i (omega (arith, lt, whole, d.count)))
