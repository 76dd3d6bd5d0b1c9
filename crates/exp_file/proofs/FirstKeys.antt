-- The first key of a map that a table doesn't know.
use Rattle.std.proofs.Common.{IfSome, IfNone, option_map, Option, ◌≡◌, ℕ, inl, inr, Bool, true, false, if◌then◌else◌, List, [], ◌∷◌, map, Some, None, Bor, String, Global, string_bytes, subst, refl, sym, ap, ◌∙◌, ◌||◌, Less, nat_cmp}
use Rattle.std.proofs.lemmas.Bool.{false≢true, or_cases, or_right}
use Rattle.std.proofs.lemmas.Cmp.{nat_list_cmp_total, tied_itself}
use Rattle.std.proofs.lemmas.Option.{none-some, same_Some}
use Rattle.std.proofs.lemmas.Slice.Eq.{bytes_eq-Decides}
use Rattle.std.specs.Cmp.Lexicographic.{slice_cmp}
use Rattle.std.specs.List.{AllByRecursion, list_any}
use Rattle.std.specs.List.Sorted.{IsStrictlySortedBy}
use Rattle.std.specs.Map.{keys_of}
use Rattle.std.specs.Ordering.{is_le}
use Rattle.std.specs.Str.{bytes_eq}
use Rattle.std.specs.String.{string_cmp}
use Rattle.toml.specs.Data.{Data, Members, no_members, member}
use Rattle.toml.specs.View.{view, members_view}
use Rattle.toml.specs.declared.value.Value.{Value}
use Rattle.exp_file.specs.Keys.{is_among, first_unknown}
use Rattle.exp_file.specs.Unknown.{has_key, IsLeastUnknown, AreKnown}

abbrev pub nows : List (Bor (List ℕ)) → List (List ℕ)
nows ks = map (λ k. k.now) ks

any_now : (ks : List (Bor (List ℕ))) (k : List ℕ) → list_any (λ x. bytes_eq x k) (nows ks) ≡ list_any (λ x. bytes_eq x.now k) ks
any_now [] k = refl
any_now (x ∷ xs) k = ap (λ (b : Bool). bytes_eq x.now k || b) (any_now xs k)

pub unknown_step : (ks : List (Bor (List ℕ))) (it : List (String Global × Value)) (e : String Global × Value) (t : List (String Global × Value)) (s : List ℕ) (b : Bool)
    → it ≡ e ∷ t → s ≡ string_bytes e.0 → list_any (λ x. bytes_eq x.now s) ks ≡ b
    → first_unknown (nows ks) (members_view it) ≡ (if b then first_unknown (nows ks) (members_view t) else Some s)
unknown_step ks it e t s b i w h =
    ap (λ (z : List (String Global × Value)). first_unknown (nows ks) (members_view z)) i
    ∙ ap (λ (b : Bool). if b then first_unknown (nows ks) (members_view t) else Some (string_bytes e.0))
    (any_now ks (string_bytes e.0) ∙ ap (λ (z : List ℕ). list_any (λ x. bytes_eq x.now z) ks) (sym w) ∙ h)
    ∙ ap (λ (z : List ℕ). if b then first_unknown (nows ks) (members_view t) else Some z) (sym w)

same_bytes : (x y : List ℕ) → bytes_eq x y ≡ true → x ≡ y
same_bytes x y h = (bytes_eq-Decides x y).0 h

among_here : (keys : List (List ℕ)) (name j : List ℕ) (t : Bool) → is_among keys name ≡ t → bytes_eq name j ≡ true → is_among keys j ≡ t
among_here keys name j t e h = subst (λ z. is_among keys z ≡ t) (same_bytes name j h) e

least_step : (keys : List (List ℕ)) (name : List ℕ) (d : Data) (ms : Members) (t : Bool) → is_among keys name ≡ t
    → ((j : List ℕ) → has_key j ms ≡ true → slice_cmp nat_cmp name j ≡ Less)
    → ((k : List ℕ) → first_unknown keys ms ≡ Some k → IsLeastUnknown keys ms k)
    → (k : List ℕ) → (if t then first_unknown keys ms else Some name) ≡ Some k → IsLeastUnknown keys (member name d ms) k
least_step keys name d ms true e above rest k h =
    let found = rest k h in record {
      unknown = (or_right (bytes_eq name k) (has_key k ms) found.unknown.0, found.unknown.1);
      least = λ j u. elim (or_cases (bytes_eq name j) (has_key j ms) u.0) as (λ _. is_le (slice_cmp nat_cmp k j) ≡ true) [
        | inl here ↦ absurd (false≢true (sym u.1 ∙ among_here keys name j true e here))
        | inr later ↦ found.least j (later, u.1)
      ];
    }
least_step keys name d ms false e above rest k h =
    let same : name ≡ k = same_Some name k h in
    subst (λ z. IsLeastUnknown keys (member name d ms) z) same (record {
      unknown = (ap (λ (b : Bool). b || has_key name ms) ((bytes_eq-Decides name name).1 refl), e);
      least = λ j u. elim (or_cases (bytes_eq name j) (has_key j ms) u.0) as (λ _. is_le (slice_cmp nat_cmp name j) ≡ true) [
        | inl here ↦ ap is_le (ap (slice_cmp nat_cmp name) (sym (same_bytes name j here)) ∙ tied_itself nat_list_cmp_total name)
        | inr later ↦ ap is_le (above j later)
      ];
    })

above_all : (k : String Global) (es : List (String Global × Value)) → AllByRecursion (λ y. string_cmp k y ≡ Less) (keys_of es) → (j : List ℕ) → has_key j (members_view es) ≡ true
    → slice_cmp nat_cmp (string_bytes k) j ≡ Less
above_all k [] all j h = absurd (false≢true h)
above_all k (e ∷ es) all j h = elim (or_cases (bytes_eq (string_bytes e.0) j) (has_key j (members_view es)) h) as (λ _. slice_cmp nat_cmp (string_bytes k) j ≡ Less) [
  | inl here ↦ ap (slice_cmp nat_cmp (string_bytes k)) (sym (same_bytes (string_bytes e.0) j here)) ∙ all.0
  | inr later ↦ above_all k es all.1 j later
]

pub least_unknown : (keys : List (List ℕ)) (es : List (String Global × Value)) → IsStrictlySortedBy string_cmp (keys_of es) → (k : List ℕ) → first_unknown keys (members_view es) ≡ Some k
    → IsLeastUnknown keys (members_view es) k
unfolding IsStrictlySortedBy
least_unknown keys [] sorted k h = absurd (none-some k h)
least_unknown keys (e ∷ es) sorted k h =
    least_step keys (string_bytes e.0) (view e.1) (members_view es) (is_among keys (string_bytes e.0)) refl (above_all e.0 es sorted.0) (least_unknown keys es sorted.1) k h

known_step : (keys : List (List ℕ)) (name : List ℕ) (d : Data) (ms : Members) (t : Bool) → is_among keys name ≡ t
    → (first_unknown keys ms ≡ None → AreKnown keys ms) → (if t then first_unknown keys ms else Some name) ≡ None → AreKnown keys (member name d ms)
known_step keys name d ms false e rest h k has = absurd (none-some name (sym h))
known_step keys name d ms true e rest h k has = elim (or_cases (bytes_eq name k) (has_key k ms) has) as (λ _. is_among keys k ≡ true) [
  | inl here ↦ among_here keys name k true e here
  | inr later ↦ rest h k later
]

pub all_known : (keys : List (List ℕ)) (ms : Members) → first_unknown keys ms ≡ None → AreKnown keys ms
all_known keys no_members h = λ k has. absurd (false≢true has)
all_known keys (member name d ms) h = known_step keys name d ms (is_among keys name) refl (all_known keys ms) h

-- the same of an answer that lends the key
pub told_least : (told : Option (Bor (List ℕ))) (keys : List (List ℕ)) (es : List (String Global × Value)) → option_map (λ s. s.now) told ≡ first_unknown keys (members_view es)
    → IsStrictlySortedBy string_cmp (keys_of es) → IfSome told (λ s. IsLeastUnknown keys (members_view es) s.now)
told_least None keys es h sorted = tt
told_least (Some s) keys es h sorted = least_unknown keys es sorted s.now (sym h)

pub told_none : (told : Option (Bor (List ℕ))) (keys : List (List ℕ)) (ms : Members) → option_map (λ s. s.now) told ≡ first_unknown keys ms → IfNone told (AreKnown keys ms)
told_none None keys ms h = all_known keys ms (sym h)
told_none (Some s) keys ms h = tt
