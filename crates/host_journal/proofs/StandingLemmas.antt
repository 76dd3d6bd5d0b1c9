-- What stands in a sink after one more put.
use Rattle.std.proofs.Common.{◌≡◌, ℕ, List, [], ◌∷◌, ◌++◌, Option, Bool, true, false, sym, ap, ◌∙◌, subst, append_assoc, length, take, drop, get_or, ◌+◌, ◌<◌}
use Rattle.std.proofs.lemmas.List.{append-nil, take_more, take-append-drop}
use Rattle.std.proofs.lemmas.Grind.{flat_map-append}
use Rattle.std.specs.List.{filter, flat_map}
use Rattle.std.proofs.lemmas.List.Elements.{filter-append}
use Rattle.trace_rec.specs.Shown.{is_shown}
use Rattle.trace_rec.specs.declared.view.View.{View}
use Rattle.trace_rec.specs.declared.rec.Rec.{Rec}
use Rattle.trace_rec.specs.Lines.{rec_line}
use Rattle.tb_io.specs.Puts.{Takes, TakesPart}
use Rattle.tb_io.proofs.Parts.{takes_none, takes_more, part_more, part_longer, part_whole_longer}
use Rattle.host_journal.specs.Standing.{Stands, Adds}
use Rattle.host_journal.specs.Texts.{rec_lines, head_line, entry_lines, entries_text}
use Rattle.host_journal.specs.Entries.{Entry}
use Rattle.host_journal.specs.declared.head.Head.{Head}

-- nothing is put once something failed
pub adds_nothing : (f : Bool) (a : Option (List ℕ)) (x : List ℕ) → f ≡ true → Adds f a f a x
adds_nothing true a x e = λ before text s. part_longer before a text x s
adds_nothing false a x e = absurd (cc)

-- nothing is put where the line was not made
pub adds_stopped : (f : Bool) (a : Option (List ℕ)) (x : List ℕ) → f ≡ false → Adds f a true a x
adds_stopped false a x e = λ before text s. part_whole_longer before a text x s
adds_stopped true a x e = absurd (cc)

pub adds_whole : (f : Bool) (a b : Option (List ℕ)) (x : List ℕ) → f ≡ false → Takes a b x → Adds f a f b x
adds_whole false a b x e t = λ before text s. takes_more before a b text x s t
adds_whole true a b x e t = absurd (cc)

pub adds_part : (f : Bool) (a b : Option (List ℕ)) (x piece : List ℕ) → f ≡ false → TakesPart a b piece → piece ≡ x → Adds f a true b x
adds_part false a b x piece e t same = λ before text s.
    part_more before a b text x s (subst (λ (z : List ℕ). TakesPart a b z) same t)
adds_part true a b x piece e t same = absurd (cc)

pub adds_more : (f g h : Bool) (a b c : Option (List ℕ)) (x y : List ℕ) → Adds f a g b x → Adds g b h c y → Adds f a h c (x ++ y)
adds_more f g h a b c x y p q = λ before text s.
    subst (λ (z : List ℕ). Stands h before c z) (append_assoc text x y) (q before (text ++ x) (p before text s))

pub adds_cut : (f g : Bool) (a b : Option (List ℕ)) (x y : List ℕ) → g ≡ true → Adds f a g b x → Adds f a g b (x ++ y)
adds_cut f true a b x y e p = λ before text s.
    subst (λ (z : List ℕ). Stands true before b z) (append_assoc text x y) (part_longer before b (text ++ x) y (p before text s))
adds_cut f false a b x y e p = absurd (cc)

pub adds_none : (f : Bool) (a : Option (List ℕ)) → Adds f a f a []
adds_none f a = λ before text s. subst (λ (z : List ℕ). Stands f before a z) (sym (append-nil text)) s

-- the lines of those of the first i + 1 records that a view shows
pub shown_more : (v : View) (guest : ℕ) (recs : List Rec) (i : ℕ) (r : Rec) → i < length recs → get_or recs i r ≡ r
    → rec_lines guest (filter (is_shown v) (take (i + 1) recs)) ≡ rec_lines guest (filter (is_shown v) (take i recs)) ++ rec_lines guest (filter (is_shown v) (r ∷ []))
shown_more v guest recs i r h same =
    ap (λ (x : List Rec). rec_lines guest (filter (is_shown v) x)) (take_more recs i r h ∙ ap (λ (x : Rec). take i recs ++ x ∷ []) same)
    ∙ ap (rec_lines guest) (filter-append (is_shown v) (take i recs) (r ∷ []))
    ∙ flat_map-append (rec_line guest) (filter (is_shown v) (take i recs)) (filter (is_shown v) (r ∷ []))

pub shown_added : (f g h : Bool) (a b c : Option (List ℕ)) (v : View) (guest : ℕ) (recs : List Rec) (i : ℕ) (r : Rec) → i < length recs → get_or recs i r ≡ r
    → Adds f a g b (rec_lines guest (filter (is_shown v) (take i recs))) → Adds g b h c (rec_lines guest (filter (is_shown v) (r ∷ []))) → Adds f a h c (rec_lines guest (filter (is_shown v) (take (i + 1) recs)))
shown_added f g h a b c v guest recs i r lt same p q =
    subst (λ (z : List ℕ). Adds f a h c z) (sym (shown_more v guest recs i r lt same)) (adds_more f g h a b c _ _ p q)

pub shown_cut : (f g h : Bool) (a b c : Option (List ℕ)) (v : View) (guest : ℕ) (recs : List Rec) (i : ℕ) (r : Rec) → i < length recs → get_or recs i r ≡ r → h ≡ true
    → Adds f a g b (rec_lines guest (filter (is_shown v) (take i recs))) → Adds g b h c (rec_lines guest (filter (is_shown v) (r ∷ []))) → Adds f a h c (rec_lines guest (filter (is_shown v) recs))
shown_cut f g h a b c v guest recs i r lt same failed p q =
    let whole : rec_lines guest (filter (is_shown v) (take (i + 1) recs)) ++ rec_lines guest (filter (is_shown v) (drop (i + 1) recs)) ≡ rec_lines guest (filter (is_shown v) recs) =
    sym (flat_map-append (rec_line guest) (filter (is_shown v) (take (i + 1) recs)) (filter (is_shown v) (drop (i + 1) recs)))
    ∙ ap (rec_lines guest) (sym (filter-append (is_shown v) (take (i + 1) recs) (drop (i + 1) recs)) ∙ ap (filter (is_shown v)) (take-append-drop (i + 1) recs)) in
    subst (λ (z : List ℕ). Adds f a h c z) whole
    (adds_cut f h a c _ _ failed (shown_added f g h a b c v guest recs i r lt same p q))

entries_text-append : (v : View) (h : Head) (es : List Entry) (e : Entry) → entries_text v h (es ++ e ∷ []) ≡ entries_text v h es ++ entry_lines v h e
unfolding entries_text
entries_text-append v h es e =
    ap (λ (x : List ℕ). head_line h ++ x) (flat_map-append (entry_lines v h) es (e ∷ []) ∙ ap (λ (x : List ℕ). flat_map (entry_lines v h) es ++ x) (append-nil (entry_lines v h e)))
    ∙ sym (append_assoc (head_line h) (flat_map (entry_lines v h) es) (entry_lines v h e))

-- a call that adds an entry's lines adds the entry
pub entry_added : (f g : Bool) (a b : Option (List ℕ)) (v : View) (h : Head) (e : Entry) → Adds f a g b (entry_lines v h e)
    → (before : Option (List ℕ)) (es : List Entry) → Stands f before a (entries_text v h es) → Stands g before b (entries_text v h (es ++ e ∷ []))
entry_added f g a b v h e p before es s =
    subst (λ (z : List ℕ). Stands g before b z) (sym (entries_text-append v h es e)) (p before (entries_text v h es) s)

-- a journal that was begun
pub stands_start : (f g : Bool) (a b : Option (List ℕ)) (v : View) (h : Head) → f ≡ false → Adds f a g b (head_line h) → Stands g a b (entries_text v h [])
unfolding entries_text
stands_start false g a b v h e p = subst (λ (z : List ℕ). Stands g a b z) (sym (append-nil (head_line h))) (p a [] (takes_none a))
stands_start true g a b v h e p = absurd (cc)
