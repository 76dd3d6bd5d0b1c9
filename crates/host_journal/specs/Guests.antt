-- What the traces and the summary show of each guest: its first ticks, as many as every guest has done when the run is at its end.
use Rattle.std.specs.Prelude.{ℕ, zero, suc, ◌/◌, nat_lt, Bool, List, [], ◌++◌, codes, length, slice_index_or}
use Rattle.std.specs.List.{filter}
use Rattle.std.specs.Fmt.{decimal}
use Rattle.trace_rec.specs.Lines.{field}
use Rattle.trace_rec.specs.declared.rec.Rec.{Rec}
use Rattle.host_journal.specs.declared.head.Head.{Head}
use Rattle.host_journal.specs.Entries.{Entry}
use Rattle.host_journal.specs.Printed.{recs_of}

abbrev pub ticks_shown : Head → ℕ
ticks_shown h = h.host_ticks / h.factor

abbrev pub is_below : ℕ → Rec → Bool
is_below k rec = nat_lt rec.tick k

-- of some entries, the records of a guest's first k ticks
abbrev pub recs_below : ℕ → List Entry → ℕ → List Rec
recs_below k es g = filter (is_below k) (recs_of g es)

abbrev pub name_at : List (List ℕ) → ℕ → List ℕ
name_at names g = slice_index_or names g []

-- a text for each number below n, one behind another
abbrev pub texts_below : (ℕ → List ℕ) → ℕ → List ℕ
texts_below t zero = []
texts_below t (suc n) = texts_below t n ++ t n

-- the first line, with how many guests and ticks there are
unfoldable pub guests_head : List ℕ → Head → List ℕ
guests_head word h = field word (length h.names.items) ++ field (codes " ticks ") (ticks_shown h) ++ codes "\n"

-- the number of a guest and its name
unfoldable pub guest_words : ℕ → List ℕ → List ℕ
guest_words g name = decimal g ++ codes " " ++ name

-- the last line
abbrev pub end_word : List ℕ
end_word = codes "end\n"

-- what stands of each guest, by its number, its name and its records
abbrev pub guest_text : (ℕ → List ℕ → List Rec → List ℕ) → List (List ℕ) → (ℕ → List Rec) → ℕ → List ℕ
guest_text shown names recs g = shown g (name_at names g) (recs g)

-- the text of guests that have these records: the first line, what stands of each guest, and the end
unfoldable pub guests_text : List ℕ → (ℕ → List ℕ → List Rec → List ℕ) → Head → (ℕ → List Rec) → List ℕ
guests_text title shown h recs = guests_head title h ++ texts_below (guest_text shown h.names.items recs) (length h.names.items) ++ end_word

-- that of a run's entries
abbrev pub guests_of : List ℕ → (ℕ → List ℕ → List Rec → List ℕ) → Head → List Entry → List ℕ
guests_of title shown h es = guests_text title shown h (recs_below (ticks_shown h) es)
