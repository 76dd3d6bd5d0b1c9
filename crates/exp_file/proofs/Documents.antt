-- Documents and the sizes of their arrays.
use Rattle.std.proofs.Common.{◌≡◌, ◌==◌, ℕ, zero, suc, ◌<◌, ◌≤◌, nat_le, le-leb, Bool, true, false, if◌then◌else◌, List, [], ◌∷◌, length, Option, Some, None, Ok, Err, IsUtf8, refl, ap, arith}
use Rattle.std.proofs.lemmas.Str.{IsUtf8-from_is_utf8, is_utf8-from_IsUtf8}
use Rattle.std.proofs.lemmas.Bool.Decides.{nat_tests}
use Rattle.std.specs.Str.{is_utf8}
use Rattle.toml.specs.Data.{Members}
use Rattle.toml.specs.View.{items_view}
use Rattle.toml.specs.Parse.{parse_document}
use Rattle.toml.specs.declared.value.Value.{Value}
use Rattle.exp_file.specs.declared.exp_why.ExpWhy.{ExpWhy}
use Rattle.exp_file.specs.declared.exp_why.ExpWhy.TheVariants.{Range, NotToml}
use Rattle.exp_file.specs.declared.section.Section.TheVariants.{Top}
use Rattle.exp_file.specs.Keys.{Table, fault_at, items_len, sized, some_of}
use Rattle.exp_file.specs.Reading.{document, of_document, reading}

some_if : (t : Bool) (o p : Option Members) → t ≡ true → o ≡ p → (if t then o else None) ≡ p
some_if true o p e h = h
some_if false o p e h = absurd (cc)

none_if : (t : Bool) (o : Option Members) → (t ≡ true → o ≡ None) → (if t then o else None) ≡ None
none_if true o h = h refl
none_if false o h = refl

pub document_some : (b : List ℕ) (ms : Members) → IsUtf8 b × (parse_document b ≡ Some ms) → document b ≡ Some ms
document_some b ms h = some_if (is_utf8 b) (parse_document b) (Some ms) (is_utf8-from_IsUtf8 b h.0) h.1

pub document_none : (b : List ℕ) → (IsUtf8 b → parse_document b ≡ None) → document b ≡ None
document_none b h = none_if (is_utf8 b) (parse_document b) (λ e. h (IsUtf8-from_is_utf8 b e))

items_len-view : (vs : List Value) → items_len (items_view vs) ≡ length vs
items_len-view [] = refl
items_len-view (v ∷ vs) = ap suc (items_len-view vs)

pub sized_ok : (vs : List Value) (most : ℕ) → length vs ≤ most → sized most (Some (items_view vs)) ≡ Ok (items_view vs)
sized_ok vs most fits = rw (items_len-view vs, le-leb (length vs) most fits) refl

pub sized_range : (vs : List Value) (most : ℕ) → most < length vs → sized most (Some (items_view vs)) ≡ Err Range
sized_range vs most long =
    let no : nat_le (length vs) most ≡ false = grind (arith, nat_tests) in
    rw (items_len-view vs, no) refl

pub some_of-some : (t : Table) (key : List ℕ) (none : ExpWhy) (vs : List Value) → (length vs == 0) ≡ false → some_of t key none (items_view vs) ≡ Ok (items_view vs)
some_of-some t key none [] h = absurd (cc)
some_of-some t key none (v ∷ vs) h = refl

pub some_of-none : (t : Table) (key : List ℕ) (none : ExpWhy) (vs : List Value) → (length vs == 0) ≡ true → some_of t key none (items_view vs) ≡ Err (fault_at t key none)
some_of-none t key none [] h = refl
some_of-none t key none (v ∷ vs) h = absurd (grind (arith, nat_tests))

pub positive : (n : ℕ) → (n == 0) ≡ false → 0 < n
positive zero e = absurd (cc)
positive (suc n) e = omega arith

pub refused : (b : List ℕ) → (IsUtf8 b → parse_document b ≡ None) → reading b ≡ Err (record { why = NotToml; section = Top; index = 0; key = [] })
unfolding reading
refused b h = ap of_document (document_none b h)
