-- One table of an experiment file, and the fields in it, over the data that `toml` states.
use Rattle.std.specs.Prelude.{◌≡◌, ◌==◌, ℕ, ℤ, pos, negsuc, ◌&&◌, ◌∷◌, [], ◌||◌, ◌%◌, not, codes, suc, nat_le, Bool, true, if◌then◌else◌, List, length, take, Option, Some, None, Result, Ok, Err, option_map}
use Rattle.std.specs.Borrow.{Bor}
use Rattle.std.specs.List.{list_any, list_all}
use Rattle.std.specs.Str.{bytes_eq}
use Rattle.toml.specs.Data.{Data, Members, no_members, member, get_member, as_integer, as_str, as_array, Items, no_items, item}
use Rattle.exp_file.specs.declared.exp_why.ExpWhy.{ExpWhy}
use Rattle.exp_file.specs.declared.exp_why.ExpWhy.TheVariants.{Missing, Unknown, WrongKind, Range}
use Rattle.exp_file.specs.declared.guest_spec.Format.{Format}
use Rattle.exp_file.specs.declared.guest_spec.Format.TheVariants.{Elf, Flat}
use Rattle.exp_file.specs.declared.form.Form.{Form}
use Rattle.exp_file.specs.declared.form.Form.TheVariants.{GuestName, ImageName, ImageKind, AnyText}
use Rattle.exp_file.specs.declared.section.Section.{Section}
use Rattle.exp_file.specs.declared.section.Section.TheVariants.{Top, Slot, Guest, Disk, Link}
use Rattle.exp_file.specs.declared.exp_fault.ExpFault.{ExpFault}
use Rattle.exp_file.specs.declared.exp_fault.ExpErr.{ExpErr}
use Rattle.exp_file.specs.declared.exp_fault.ExpErr.TheVariants as errors

infixl 10 ◌>>=◌
abbrev pub ◌>>=◌ : {A B : Type 0} → Result A ExpFault → (A → Result B ExpFault) → Result B ExpFault
(Ok x) >>= f = f x
(Err e) >>= f = Err e

-- What a function returned is what reading gives, unless memory ran out.
abbrev pub Fails : {Y : Type 0} → ExpErr → Result Y ExpFault → Type 0
Fails errors.NoMemory read = Unit {0}
Fails (errors.Fault f) read = read ≡ Err f

abbrev pub Gives : {Y : Type 0} → Result Y ExpErr → Result Y ExpFault → Type 0
Gives (Ok x) read = read ≡ Ok x
Gives (Err e) read = Fails e read

-- a table of the file: which it is, and its members
pub record Table : Type 0 where
  pub section : Section
  pub index : ℕ
  pub members : Members

abbrev pub fault_at : Table → List ℕ → ExpWhy → ExpFault
fault_at t key why = record { why = why; section = t.section; index = t.index; key = take 32 key }

-- a value of a key, or the fault of that key
abbrev pub at_key : {A : Type 0} → Table → List ℕ → Result A ExpWhy → Result A ExpFault
at_key t key (Ok x) = Ok x
at_key t key (Err why) = Err (fault_at t key why)

abbrev pub needed : {A : Type 0} → Result (Option A) ExpWhy → Result A ExpWhy
needed (Ok (Some x)) = Ok x
needed (Ok None) = Err Missing
needed (Err why) = Err why

abbrev pub with_default : {A : Type 0} → A → Result (Option A) ExpWhy → Result A ExpWhy
with_default d (Ok (Some x)) = Ok x
with_default d (Ok None) = Ok d
with_default d (Err why) = Err why

-- an integer of a range
abbrev pub within : ℕ → ℕ → Option ℤ → Result (Option ℕ) ExpWhy
within low high None = Err WrongKind
within low high (Some (pos n)) = if nat_le low n && nat_le n high then Ok (Some n) else Err Range
within low high (Some (negsuc n)) = Err Range

abbrev pub number_in : ℕ → ℕ → Option Data → Result (Option ℕ) ExpWhy
number_in low high None = Ok None
number_in low high (Some d) = within low high (as_integer d)

-- a text of a form
abbrev pub text_of : (List ℕ → Bool) → Option (List ℕ) → Result (Option (List ℕ)) ExpWhy
text_of form None = Err WrongKind
text_of form (Some bytes) = if form bytes then Ok (Some bytes) else Err Range

abbrev pub text_in : (List ℕ → Bool) → Option Data → Result (Option (List ℕ)) ExpWhy
text_in form None = Ok None
text_in form (Some d) = text_of form (as_str d)

-- a byte of a guest's name: a to z, 0 to 9, _ or -
abbrev pub is_name_byte : ℕ → Bool
is_name_byte b = nat_le 0x61 b && nat_le b 0x7a || nat_le 0x30 b && nat_le b 0x39 || b == 0x5f || b == 0x2d

-- a byte that a file's name may have
abbrev pub is_not_zero : ℕ → Bool
is_not_zero b = not (b == 0)

abbrev pub has_form : Form → List ℕ → Bool
has_form GuestName t = nat_le 1 (length t) && nat_le (length t) 32 && list_all is_name_byte t
has_form ImageName t = nat_le 1 (length t) && nat_le (length t) 255 && list_all is_not_zero t
has_form ImageKind t = bytes_eq t (codes "elf") || bytes_eq t (codes "flat")
has_form AnyText t = true

-- the forms of texts that are kept as names
abbrev pub IsNameForm : Form → Type 0
IsNameForm GuestName = Unit {0}
IsNameForm ImageName = Unit {0}
IsNameForm ImageKind = ⊥
IsNameForm AnyText = ⊥

-- the fields of a table by their keys
unfoldable pub number : Table → List ℕ → ℕ → ℕ → Result ℕ ExpFault
number t key low high = at_key t key (needed (number_in low high (get_member key t.members)))

unfoldable pub number_or : Table → List ℕ → ℕ → ℕ → ℕ → Result ℕ ExpFault
number_or t key low high d = at_key t key (with_default d (number_in low high (get_member key t.members)))

unfoldable pub maybe_number : Table → List ℕ → ℕ → ℕ → Result (Option ℕ) ExpFault
maybe_number t key low high = at_key t key (number_in low high (get_member key t.members))

unfoldable pub text : Table → List ℕ → Form → Result (List ℕ) ExpFault
text t key form = at_key t key (needed (text_in (has_form form) (get_member key t.members)))

unfoldable pub maybe_text : Table → List ℕ → Form → Result (Option (List ℕ)) ExpFault
maybe_text t key form = at_key t key (text_in (has_form form) (get_member key t.members))

-- a multiple of a number
unfoldable pub multiple : Table → List ℕ → ℕ → ℕ → Result (Unit {0}) ExpFault
multiple t key n of = if n % of == 0 then Ok tt else Err (fault_at t key Range)

-- whether a key is one of these
abbrev pub is_among : List (List ℕ) → List ℕ → Bool
is_among keys k = list_any (λ x. bytes_eq x k) keys

-- the first key of a table that is none of these
abbrev pub first_unknown : List (List ℕ) → Members → Option (List ℕ)
first_unknown keys no_members = None
first_unknown keys (member k d ms) = if is_among keys k then first_unknown keys ms else Some k

abbrev pub known_or : Table → Option (List ℕ) → Result (Unit {0}) ExpFault
known_or t None = Ok tt
known_or t (Some key) = Err (fault_at t key Unknown)

-- the keys of each table
unfoldable pub keys_of : Section → List (List ℕ)
keys_of Top = codes "version" ∷ codes "factor" ∷ codes "slot" ∷ codes "guest" ∷ codes "disk" ∷ codes "link" ∷ []
keys_of Slot = codes "capacity" ∷ []
keys_of Guest = codes "name" ∷ codes "image" ∷ codes "format" ∷ codes "ram" ∷ codes "rate" ∷ codes "nics" ∷ codes "slot" ∷ []
keys_of Disk = codes "guest" ∷ codes "sectors" ∷ codes "image" ∷ codes "base" ∷ codes "per_sector" ∷ codes "seek_num" ∷ codes "seek_den" ∷ []
keys_of Link = codes "a" ∷ codes "a_nic" ∷ codes "b" ∷ codes "b_nic" ∷ codes "bandwidth" ∷ codes "delay" ∷ codes "queue" ∷ []

unfoldable pub known : Table → Result (Unit {0}) ExpFault
known t = known_or t (first_unknown (keys_of t.section) t.members)

-- the text that a table holds, lent
abbrev pub TextGives : Result (Bor (List ℕ)) ExpErr → Result (List ℕ) ExpFault → Type 0
TextGives (Ok t) read = read ≡ Ok t.now
TextGives (Err e) read = Fails e read

abbrev pub TextAt : Result (Option (Bor (List ℕ))) ExpWhy → Result (Option (List ℕ)) ExpWhy → Type 0
TextAt (Ok o) read = read ≡ Ok (option_map (λ t. t.now) o)
TextAt (Err why) read = read ≡ Err why

-- the formats of an image
abbrev pub format_named : Option (List ℕ) → Format
format_named None = Elf
format_named (Some t) = if bytes_eq t (codes "flat") then Flat else Elf

abbrev pub formatted : Result (Option (List ℕ)) ExpWhy → Result Format ExpWhy
formatted (Ok o) = Ok (format_named o)
formatted (Err why) = Err why

unfoldable pub format : Table → Result Format ExpFault
format t = at_key t (codes "format") (formatted (text_in (has_form ImageKind) (get_member (codes "format") t.members)))

-- the tables of a key: none where it is absent, and not too many
abbrev pub items_len : Items → ℕ
items_len no_items = 0
items_len (item d ds) = suc (items_len ds)

abbrev pub sized : ℕ → Option Items → Result Items ExpWhy
sized most None = Err WrongKind
sized most (Some ds) = if nat_le (items_len ds) most then Ok ds else Err Range

abbrev pub array_in : ℕ → Option Data → Result Items ExpWhy
array_in most None = Ok no_items
array_in most (Some d) = sized most (as_array d)

unfoldable pub array : Table → List ℕ → ℕ → Result Items ExpFault
array t key most = at_key t key (array_in most (get_member key t.members))

-- the tables of a key that must have one at least
abbrev pub some_of : Table → List ℕ → ExpWhy → Items → Result Items ExpFault
some_of t key none no_items = Err (fault_at t key none)
some_of t key none (item d ds) = Ok (item d ds)

unfoldable pub some_array : Table → List ℕ → ℕ → ExpWhy → Result Items ExpFault
some_array t key most none = array t key most >>= some_of t key none
